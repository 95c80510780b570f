-- What is counted of the streams of conversations, with one packet more.
use Rattle.std.proofs.Common.{◌≡◌, ◌∙◌, ℕ, ◌+◌, ◌-◌, ◌^◌, ◌<◌, ◌≤◌, Bool, true, false, cond, List, [], ◌∷◌, ◌++◌, Option, Some, None, Result, Ok, Err}
use Rattle.std.proofs.Common.{IsPermutation, OnErr, OnOk, filter_map, inr, is_some, leb-true, min, nat_le, option_map, refl, ap, arith, subst, sum_by, sym}
use Rattle.std.proofs.lemmas.List.{append-nil}
use Rattle.std.proofs.lemmas.List.Elements.{filter_map-append}
use Rattle.std.proofs.lemmas.List.Sorted.{sum_by-IsPermutation}
use Rattle.std.proofs.lemmas.List.Sums.{fold-append, sum_by-cons}
use Rattle.std.specs.HashMap.{HashMap, PutsEntry, get, hash_map_len}
use Rattle.std.specs.List.{cons_option}
use Rattle.std.specs.Map.{lookup, set_value}
use Rattle.tcp_streams.specs.ConnectionStates.{Signal, state_after}
use Rattle.tcp_streams.specs.Counting.{Arrival, Counts, size_in}
use Rattle.tcp_streams.specs.declared.connection_state.ConnectionState.{ConnectionState}
use Rattle.tcp_streams.specs.declared.connection_state.ConnectionState.TheVariants.{Unseen}
use Rattle.tcp_streams.specs.declared.direction.Direction.{Direction}
use Rattle.tcp_streams.specs.declared.stream_counter.StreamCounter.{StreamCounter}
use Rattle.packets.specs.Followed.{whole_segment}
use Rattle.packets.specs.Streams.{AreSame, CountsSegment, CountsStream, FollowsStreams, IsFresh, IsStreamOf, MissPacket, StopBy, StopsOne}
use Rattle.packets.specs.Streams.{StreamTakes, StreamsTake, TakeBy, TakeIn, TakePacket, arrival_by, arrival_in, arrivals_in, arrivals_of}
use Rattle.packets.specs.Streams.{held_in, is_of, signal_by, signals_in, stopped, stopped_stream, stream_size, tcp_packet_of}
use Rattle.packets.specs.Table.{is_key}
use Rattle.packets.specs.declared.dissection.Dissection.{Dissection}
use Rattle.packets.specs.declared.flows.conversation.Conversation.{Conversation}
use Rattle.packets.specs.declared.flows.stream.Stream.{Stream}
use Rattle.packets.specs.declared.flows.stream.TheConstants.{STREAM_WINDOW}
use Rattle.packets.specs.declared.flows.streams.Streams.{Streams}
use Rattle.packets.specs.declared.flows.streams.TheConstants.{HELD_SIZE, STREAM_COUNT}
use Rattle.packets.specs.declared.flows.tcp_packet.TcpPacket.{TcpPacket}

-- ---- a counter with a segment more

pub no_segment : (counter : StreamCounter) (direction : Direction) (segment : Option (List ℕ)) → segment ≡ None
    → CountsSegment counter direction segment counter
no_segment counter direction segment none = rw none (record {
  counts = λ kept arrivals counted. rw (append-nil arrivals) counted;
  followed = refl;
  stopped = λ none. refl;
})

pub segment_as : {E : Type 0} (result : Result Unit E) (was now : StreamCounter) (direction : Direction) (segment : List ℕ)
    (a : Arrival) → a ≡ arrival_in direction segment
    → ((kept : ℕ) (arrivals : List Arrival) → Counts kept was arrivals → Counts kept now (arrivals ++ a ∷ []))
    → OnOk result (is_some now.follower ≡ is_some was.follower) → (was.follower ≡ None → now ≡ was)
    → OnOk result (CountsSegment was direction (Some segment) now)
segment_as (Ok done) was now direction segment a same counts followed stopped = record {
  counts = λ kept arrivals counted. subst (λ (x : Arrival). Counts kept now (arrivals ++ x ∷ [])) same (counts kept arrivals counted);
  followed = followed;
  stopped = stopped;
}
segment_as (Err error) was now direction segment a same counts followed stopped = tt

pub segment_by : {E : Type 0} (result : Result Unit E) (was now : StreamCounter) (direction : Direction) (o p : Option (List ℕ))
    → o ≡ p → OnOk result (CountsSegment was direction p now) → OnOk result (CountsSegment was direction o now)
segment_by result was now direction o p same counted = rw same counted

-- ---- a stream with a packet more

stopped_counts : (kept : ℕ) (counter : StreamCounter) (arrivals : List Arrival) → Counts kept counter arrivals
    → Counts kept (stopped counter) arrivals
stopped_counts kept counter arrivals counted =
    let course = counted.3 in (
      counted.0,
      counted.1,
      counted.2,
      record {
        outcomes = course.outcomes;
        up_to = tt;
        from_lower = course.from_lower;
        from_higher = course.from_higher;
      },
    )

within_counts : (b : Bool) (kept : ℕ) (counter : StreamCounter) (arrivals : List Arrival) → Counts kept counter arrivals
    → Counts kept (cond b counter (stopped counter)) arrivals
within_counts true kept counter arrivals counted = counted
within_counts false kept counter arrivals counted = stopped_counts kept counter arrivals counted

takes_counts : (others : ℕ) (was : Stream) (tcp_packet : TcpPacket) (packet : Dissection) (now : Stream)
    (signals : List Signal) (arrivals : List Arrival) → StreamTakes others was tcp_packet packet now
    → CountsStream was signals arrivals
    → CountsStream now (signals ++ (tcp_packet.direction, tcp_packet.control) ∷ [])
    (arrivals ++ arrivals_of tcp_packet.direction (whole_segment packet))
takes_counts others was tcp_packet packet now signals arrivals takes counted = record {
  state = takes.state ∙ ap (λ (s : ConnectionState). state_after s tcp_packet.direction tcp_packet.control) counted.state
      ∙ sym (fold-append (λ (s : ConnectionState) (signal : Signal). state_after s signal.0 signal.1) Unseen signals
      ((tcp_packet.direction, tcp_packet.control) ∷ []));
  counts = rw takes.within (within_counts (nat_le (others + size_in takes.reached.follower) HELD_SIZE) STREAM_WINDOW
      takes.reached _ (takes.counts.counts STREAM_WINDOW arrivals counted.counts));
}

stopped_stream_counts : (stream : Stream) (signals : List Signal) (arrivals : List Arrival)
    → CountsStream stream signals arrivals → CountsStream (stopped_stream stream) signals arrivals
stopped_stream_counts stream signals arrivals counted = record {
  state = counted.state;
  counts = stopped_counts STREAM_WINDOW stream.counter arrivals counted.counts;
}

-- ---- how much is held

within_bounded : (others : ℕ) (counter : StreamCounter) (b : Bool)
    → nat_le (others + size_in counter.follower) HELD_SIZE ≡ b → others ≤ HELD_SIZE
    → others + size_in (cond b counter (stopped counter)).follower ≤ HELD_SIZE
within_bounded others counter true is few = omega (arith, leb-true _ _ is)
within_bounded others counter false is few = omega (arith, few)

takes_bounded : (others : ℕ) (was : Stream) (tcp_packet : TcpPacket) (packet : Dissection) (now : Stream)
    → StreamTakes others was tcp_packet packet now → others ≤ HELD_SIZE → others + stream_size now ≤ HELD_SIZE
takes_bounded others was tcp_packet packet now takes few =
    rw takes.within (within_bounded others takes.reached _ refl few)

-- where a value changes, what is held of the others stays
held_beside : {K : Type 0} (test : K → Bool) (es : List (K × Stream)) (was : Stream) → lookup test es ≡ Some was
    → (others : ℕ) × (sum_by (λ (e : K × Stream). stream_size e.1) es ≡ others + stream_size was)
    × ((now : Stream) → sum_by (λ (e : K × Stream). stream_size e.1) (set_value test es now) ≡ others + stream_size now)
held_beside test [] was there = cc
held_beside {K} test (e ∷ es) was there =
    elim (test e.0) as (λ b. test e.0 ≡ b → cond b (Some e.1) (lookup test es) ≡ Some was
    → (others : ℕ) × (sum_by (λ (e : K × Stream). stream_size e.1) (e ∷ es) ≡ others + stream_size was)
    × ((now : Stream) → sum_by (λ (e : K × Stream). stream_size e.1) (cond b ((e.0, now) ∷ es) (e ∷ set_value test es now))
    ≡ others + stream_size now)) [
      | true ↦ λ passes there. (
        sum_by (λ (e : K × Stream). stream_size e.1) es,
        (let same : e.1 ≡ was = cc in
            omega (arith, sum_by-cons (λ (e : K × Stream). stream_size e.1) e es, ap stream_size same)),
        (λ now. omega (arith, sum_by-cons (λ (e : K × Stream). stream_size e.1) (e.0, now) es)),
      )
      | false ↦ λ passes there.
          let rest = held_beside test es was there in (
            stream_size e.1 + rest.0,
            omega (arith, rest.1, sum_by-cons (λ (e : K × Stream). stream_size e.1) e es),
            (λ now. omega (arith, rest.2 now, sum_by-cons (λ (e : K × Stream). stream_size e.1) e (set_value test es now))),
          )
    ] refl there

pub on_ok : {E : Type 0} (result : Result Unit E) (A B : Type 0) → (A → B) → OnOk result A → OnOk result B
on_ok (Ok done) A B then holds = then holds
on_ok (Err error) A B then holds = tt

pub on_err : {E : Type 0} (result : Result Unit E) (A B : Type 0) → (A → B) → OnErr result A → OnErr result B
on_err (Ok done) A B then holds = tt
on_err (Err error) A B then holds = then holds

pub always : {E : Type 0} (result : Result Unit E) (A : Type 0) → A → OnErr result A
always (Ok done) A a = tt
always (Err error) A a = a

pub always_both : {E : Type 0} (result : Result Unit E) (A B : Type 0) → A → B → OnErr result (A × B)
always_both (Ok done) A B a b = tt
always_both (Err error) A B a b = (a, b)

pub after : {X : Type 0} (P Q R : X → Type 0) → ((x : X) → P x → Q x) → ((x : X) → Q x → R x) → (x : X) → P x → R x
after P Q R first second x holds = second x (first x holds)

-- ---- the streams of conversations

chosen : {X : Type 0} (b : Bool) (o p : Option X) → b ≡ true → o ≡ p → cons_option (cond b o None) [] ≡ cons_option p []
chosen {X} true o p passes same = ap (λ (o : Option X). cons_option o []) same
chosen false o p passes same = cc

not_chosen : {X : Type 0} (b : Bool) (o : Option X) → b ≡ false → cons_option (cond b o None) [] ≡ []
not_chosen true o other = cc
not_chosen false o other = refl

push_chosen : {X : Type 0} (is : Dissection → Bool) (of : Dissection → Option X) (packets : List Dissection)
    (packet : Dissection) (p : Option X) → is packet ≡ true → of packet ≡ p
    → filter_map (λ q. cond (is q) (of q) None) (packets ++ packet ∷ [])
    ≡ filter_map (λ q. cond (is q) (of q) None) packets ++ cons_option p []
push_chosen {X} is of packets packet p passes same =
    filter_map-append (λ q. cond (is q) (of q) None) packets (packet ∷ [])
    ∙ ap (λ (xs : List X). filter_map (λ q. cond (is q) (of q) None) packets ++ xs) (chosen (is packet) (of packet) p passes same)

push_not_chosen : {X : Type 0} (is : Dissection → Bool) (of : Dissection → Option X) (packets : List Dissection)
    (packet : Dissection) → is packet ≡ false
    → filter_map (λ q. cond (is q) (of q) None) (packets ++ packet ∷ []) ≡ filter_map (λ q. cond (is q) (of q) None) packets
push_not_chosen {X} is of packets packet other =
    filter_map-append (λ q. cond (is q) (of q) None) packets (packet ∷ [])
    ∙ ap (λ (xs : List X). filter_map (λ q. cond (is q) (of q) None) packets ++ xs) (not_chosen (is packet) (of packet) other)
    ∙ append-nil (filter_map (λ q. cond (is q) (of q) None) packets)

by_stream : (n : ℕ) (o p : Option Stream) (signals signals' : List Signal) (arrivals arrivals' : List Arrival) → o ≡ p
    → signals ≡ signals' → arrivals ≡ arrivals' → IsStreamOf n p signals' arrivals' → IsStreamOf n o signals arrivals
by_stream n o p signals signals' arrivals arrivals' a b c is = rw (a, b, c) is

stream_moved : (n n' : ℕ) (o p : Option Stream) (signals : List Signal) (arrivals : List Arrival) → n' ≡ n → p ≡ o
    → IsStreamOf n o signals arrivals → IsStreamOf n' p signals arrivals
stream_moved n n' o p signals arrivals a b is = rw (a, b) is

one_more : (b : Bool) (n n' : ℕ) → n' ≡ n + cond b 0 1 → n ≤ n'
one_more true n n' size = omega (arith, size)
one_more false n n' size = omega (arith, size)

-- there are more streams
longer : (n n' : ℕ) (o : Option Stream) (signals : List Signal) (arrivals : List Arrival) → n ≤ n'
    → IsStreamOf n o signals arrivals → IsStreamOf n' o signals arrivals
longer n n' None signals arrivals more is = λ few. is (omega arith)
longer n n' (Some stream) signals arrivals more is = is

module _ {S H : Type 0} (same : Conversation → Conversation → Bool) where
  -- the same streams, whose entries may stand in another order
  pub follows_same : (was now : Streams S H) (packets : List Dissection) → AreSame same was now
      → IsPermutation was.streams.entries now.streams.entries → FollowsStreams same was packets
      → FollowsStreams same now packets
  follows_same was now packets are order follows = record {
    each = λ q. stream_moved _ _ _ _ _ _ are.len (are.streams q) (follows.each q);
    held = are.held ∙ follows.held
        ∙ sym (sum_by-IsPermutation (λ (e : Conversation × Stream). stream_size e.1) _ _ order);
    bounded = rw are.held follows.bounded;
  }

  pub same_after : (was mid now : Streams S H) → AreSame same was mid → AreSame same mid now → AreSame same was now
  same_after was mid now are next = record {
    held = next.held ∙ are.held;
    len = next.len ∙ are.len;
    streams = λ q. next.streams q ∙ are.streams q;
  }

module _ {S H : Type 0} (same : Conversation → Conversation → Bool) (was mid now : Streams S H) (packet : Dissection)
    (are : AreSame same was mid) where
  stop_moved : (o : Option TcpPacket) → StopBy same mid now o → StopBy same was now o
  stop_moved None stops = absurd stops
  stop_moved (Some tcp_packet) stops = record {
    streams = λ q. rw (sym (are.streams q)) (stops.streams q);
    held = rw (sym are.held, sym (are.streams tcp_packet.conversation)) stops.held;
    len = stops.len ∙ are.len;
  }

  take_moved : (tcp_packet : TcpPacket) (stream : Stream) (n m : ℕ) → n ≡ m
      → StreamsTake same mid packet now tcp_packet stream n → StreamsTake same was packet now tcp_packet stream m
  take_moved tcp_packet stream n m is takes = record {
    stream_now = takes.stream_now;
    takes = subst (λ (others : ℕ). StreamTakes others stream tcp_packet packet takes.stream_now) is takes.takes;
    held = takes.held ∙ ap (λ (others : ℕ). others + stream_size takes.stream_now) is;
    len = rw (sym are.len, sym (are.streams tcp_packet.conversation)) takes.len;
    written = λ q. takes.written q
        ∙ ap (λ (o : Option Stream). cond (same tcp_packet.conversation q) (Some takes.stream_now) o) (are.streams q);
  }

  take_in_moved : (tcp_packet : TcpPacket) (o : Option Stream) → TakeIn same mid packet now tcp_packet o
      → TakeIn same was packet now tcp_packet o
  take_in_moved tcp_packet None takes = (
    (λ few. let started = takes.0 (rw are.len few) in (started.0, started.1, take_moved tcp_packet started.0 _ _ are.held started.2)),
    (λ full. same_after same was mid now are (takes.1 (rw are.len full))),
  )
  take_in_moved tcp_packet (Some stream) takes =
      take_moved tcp_packet stream _ _ (ap (λ (n : ℕ). n - stream_size stream) are.held) takes

  take_by_moved : (o : Option TcpPacket) → TakeBy same mid packet now o → TakeBy same was packet now o
  take_by_moved None takes = same_after same was mid now are takes
  take_by_moved (Some tcp_packet) takes = take_in_moved tcp_packet (get same was.streams tcp_packet.conversation)
      (subst (λ (o : Option Stream). TakeIn same mid packet now tcp_packet o) (are.streams tcp_packet.conversation) takes)

  -- what a packet does to the same streams
  pub takes_moved : TakePacket same mid packet now → TakePacket same was packet now
  takes_moved takes = take_by_moved (tcp_packet_of packet) takes

  -- and where there is no memory for it
  pub miss_moved : (o : Option TcpPacket) → o ≡ tcp_packet_of packet → StopBy same mid now o → MissPacket same was packet now
  miss_moved o is stops =
      inr (stop_moved (tcp_packet_of packet) (subst (λ (p : Option TcpPacket). StopBy same mid now p) is stops))

module _ (same : Conversation → Conversation → Bool) (packets : List Dissection) (packet : Dissection) where
  -- a packet of no conversation over TCP
  pub streams_same : (n : ℕ) (streams : Conversation → Option Stream) → tcp_packet_of packet ≡ None
      → ((q : Conversation) → IsStreamOf n (streams q) (signals_in same q packets) (arrivals_in same q packets))
      → (q : Conversation) → IsStreamOf n (streams q) (signals_in same q (packets ++ packet ∷ []))
      (arrivals_in same q (packets ++ packet ∷ []))
  streams_same n streams none was q =
      let other : is_of same q packet ≡ false =
      ap (λ (o : Option TcpPacket). is_key same q (option_map (λ (p : TcpPacket). p.conversation) o)) none in
      by_stream n (streams q) (streams q) _ (signals_in same q packets) _ (arrivals_in same q packets) refl
      (push_not_chosen (is_of same q) (λ p. signal_by (tcp_packet_of p)) packets packet other)
      (push_not_chosen (is_of same q) (λ p. arrival_by (tcp_packet_of p) p) packets packet other) (was q)

  module _ (tcp_packet : TcpPacket) (is : tcp_packet_of packet ≡ Some tcp_packet)
      (exact : (a b : Conversation) → same a b ≡ true → a ≡ b) where
    its_own : (q : Conversation) → is_of same q packet ≡ same tcp_packet.conversation q
    its_own q = ap (λ (o : Option TcpPacket). is_key same q (option_map (λ (p : TcpPacket). p.conversation) o)) is

    signals_more : (q : Conversation) → same tcp_packet.conversation q ≡ true
        → signals_in same q (packets ++ packet ∷ [])
        ≡ signals_in same q packets ++ (tcp_packet.direction, tcp_packet.control) ∷ []
    signals_more q passes = push_chosen (is_of same q) (λ p. signal_by (tcp_packet_of p)) packets packet
        (Some (tcp_packet.direction, tcp_packet.control)) (its_own q ∙ passes) (ap signal_by is)

    arrivals_more : (q : Conversation) → same tcp_packet.conversation q ≡ true
        → arrivals_in same q (packets ++ packet ∷ []) ≡ arrivals_in same q packets
        ++ arrivals_of tcp_packet.direction (whole_segment packet)
    arrivals_more q passes = push_chosen (is_of same q) (λ p. arrival_by (tcp_packet_of p) p) packets packet
        (option_map (arrival_in tcp_packet.direction) (whole_segment packet)) (its_own q ∙ passes)
        (ap (λ (o : Option TcpPacket). arrival_by o packet) is)

    others : (n : ℕ) (o : Option Stream) (q : Conversation) → same tcp_packet.conversation q ≡ false
        → IsStreamOf n o (signals_in same q packets) (arrivals_in same q packets)
        → IsStreamOf n o (signals_in same q (packets ++ packet ∷ [])) (arrivals_in same q (packets ++ packet ∷ []))
    others n o q other was =
        by_stream n o o _ (signals_in same q packets) _ (arrivals_in same q packets) refl
        (push_not_chosen (is_of same q) (λ p. signal_by (tcp_packet_of p)) packets packet (its_own q ∙ other))
        (push_not_chosen (is_of same q) (λ p. arrival_by (tcp_packet_of p) p) packets packet (its_own q ∙ other)) was

    -- what its stream counts with the packet
    with_packet : (others_held : ℕ) (was now : Stream) → StreamTakes others_held was tcp_packet packet now
        → CountsStream was (signals_in same tcp_packet.conversation packets)
        (arrivals_in same tcp_packet.conversation packets) → (q : Conversation) → same tcp_packet.conversation q ≡ true
        → CountsStream now (signals_in same q (packets ++ packet ∷ [])) (arrivals_in same q (packets ++ packet ∷ []))
    with_packet others_held was now takes counted q passes =
        let counted = subst (λ (c : Conversation). CountsStream was (signals_in same c packets) (arrivals_in same c packets))
        (exact tcp_packet.conversation q passes) counted in
        rw (signals_more q passes, arrivals_more q passes) (takes_counts others_held was tcp_packet packet now _ _ takes counted)

    -- the stream of its conversation becomes this one, of these packets, and those of others stay
    put : (n n' : ℕ) (old new : Conversation → Option Stream) (stream : Stream) (all : List Dissection) → n ≤ n'
        → ((q : Conversation) → new q ≡ cond (same tcp_packet.conversation q) (Some stream) (old q))
        → ((q : Conversation) → same tcp_packet.conversation q ≡ true
        → CountsStream stream (signals_in same q all) (arrivals_in same q all))
        → ((q : Conversation) → same tcp_packet.conversation q ≡ false
        → IsStreamOf n (old q) (signals_in same q all) (arrivals_in same q all))
        → (q : Conversation) → IsStreamOf n' (new q) (signals_in same q all) (arrivals_in same q all)
    put n n' old new stream all more written counted beside q =
        elim (same tcp_packet.conversation q) as (λ b. same tcp_packet.conversation q ≡ b
        → IsStreamOf n' (new q) (signals_in same q all) (arrivals_in same q all)) [
          | true ↦ λ passes.
              by_stream n' (new q) (Some stream) _ _ _ _
              (written q ∙ ap (λ (b : Bool). cond b (Some stream) (old q)) passes) refl refl (counted q passes)
          | false ↦ λ other.
              by_stream n' (new q) (old q) _ _ _ _ (written q ∙ ap (λ (b : Bool). cond b (Some stream) (old q)) other) refl refl
              (longer n n' (old q) _ _ more (beside q other))
        ] refl

    -- there are as many streams as may be, and its conversation has none
    streams_full : (n : ℕ) (streams : Conversation → Option Stream) → STREAM_COUNT ≤ n
        → streams tcp_packet.conversation ≡ None
        → ((q : Conversation) → IsStreamOf n (streams q) (signals_in same q packets) (arrivals_in same q packets))
        → (q : Conversation) → IsStreamOf n (streams q) (signals_in same q (packets ++ packet ∷ []))
        (arrivals_in same q (packets ++ packet ∷ []))
    streams_full n streams full none was q =
        elim (same tcp_packet.conversation q) as (λ b. same tcp_packet.conversation q ≡ b
        → IsStreamOf n (streams q) (signals_in same q (packets ++ packet ∷ [])) (arrivals_in same q (packets ++ packet ∷ []))) [
          | true ↦ λ passes.
              let key = exact tcp_packet.conversation q passes in
              let here = subst (λ (c : Conversation). streams c ≡ None) key none in
              by_stream n (streams q) None _ _ _ _ here refl refl (λ few. absurd (omega (arith, few, full)))
          | false ↦ λ other. others n (streams q) q other (was q)
        ] refl

    -- what its stream counts
    stream_there : (n : ℕ) (o : Option Stream) (stream : Stream) → o ≡ Some stream
        → IsStreamOf n o (signals_in same tcp_packet.conversation packets) (arrivals_in same tcp_packet.conversation packets)
        → CountsStream stream (signals_in same tcp_packet.conversation packets)
        (arrivals_in same tcp_packet.conversation packets)
    stream_there n o stream there was = rw there at was

    stream_new : (n : ℕ) (o : Option Stream) (stream : Stream) → o ≡ None → n < STREAM_COUNT
        → IsStreamOf n o (signals_in same tcp_packet.conversation packets) (arrivals_in same tcp_packet.conversation packets)
        → CountsStream stream [] []
        → CountsStream stream (signals_in same tcp_packet.conversation packets)
        (arrivals_in same tcp_packet.conversation packets)
    stream_new n o stream none few was counted =
        let empty = (rw none at was) few in rw (empty.0, empty.1) counted

    module _ {S H : Type 0} where
      -- what is held where a stream changes
      beside_stream : (old : Streams S H) (was : Stream) → FollowsStreams same old packets
          → get same old.streams tcp_packet.conversation ≡ Some was
          → (others_held : ℕ) × (others_held ≡ old.held - stream_size was) × (others_held ≤ HELD_SIZE)
          × ((now : Stream) → sum_by (λ (e : Conversation × Stream). stream_size e.1)
          (set_value (same tcp_packet.conversation) old.streams.entries now) ≡ others_held + stream_size now)
      beside_stream old was follows there =
          let held = held_beside (same tcp_packet.conversation) old.streams.entries was there in (
            held.0,
            omega (arith, held.1, follows.held),
            omega (arith, held.1, follows.held, follows.bounded),
            held.2,
          )

      by_entries : (old new : Streams S H) (stream : Stream)
          → new.streams.entries ≡ set_value (same tcp_packet.conversation) old.streams.entries stream
          → new.held ≡ sum_by (λ (e : Conversation × Stream). stream_size e.1)
          (set_value (same tcp_packet.conversation) old.streams.entries stream) → new.held ≡ held_in new.streams
      by_entries old new stream entries held = held
          ∙ ap (λ (es : List (Conversation × Stream)). sum_by (λ (e : Conversation × Stream). stream_size e.1) es) (sym entries)

      -- its stream takes it
      pub follows_taken : (old new : Streams S H) (was stream : Stream) (others_held : ℕ)
          → get same old.streams tcp_packet.conversation ≡ Some was → others_held ≡ old.held - stream_size was
          → StreamTakes others_held was tcp_packet packet stream
          → new.held ≡ min (others_held + stream_size stream) (2 ^ 64 - 1)
          → hash_map_len new.streams ≡ hash_map_len old.streams
          → new.streams.entries ≡ set_value (same tcp_packet.conversation) old.streams.entries stream
          → ((q : Conversation) → get same new.streams q
          ≡ cond (same tcp_packet.conversation q) (Some stream) (get same old.streams q))
          → FollowsStreams same old packets → FollowsStreams same new (packets ++ packet ∷ [])
      follows_taken old new was stream others_held there beside_is takes held size entries written follows =
          let beside = beside_stream old was follows there in
          let few : others_held ≤ HELD_SIZE = omega (arith, beside.1, beside.2, beside_is) in
          let within = takes_bounded others_held was tcp_packet packet stream takes few in
          let held : new.held ≡ others_held + stream_size stream = omega (arith, held, within) in
          record {
            each = put (hash_map_len old.streams) (hash_map_len new.streams) (get same old.streams) (get same new.streams)
                stream (packets ++ packet ∷ []) (omega (arith, size)) written
                (with_packet others_held was stream takes
                (stream_there (hash_map_len old.streams) (get same old.streams tcp_packet.conversation) was there
                (follows.each tcp_packet.conversation)))
                (λ q other. others (hash_map_len old.streams) (get same old.streams q) q other (follows.each q));
            held = by_entries old new stream entries (omega (arith, held, beside.1, beside_is, beside.3 stream));
            bounded = omega (arith, held, within);
          }

      -- there is no memory for what its stream would hold
      pub follows_stopped : (old new : Streams S H) (was stream : Stream) (others_held : ℕ)
          → get same old.streams tcp_packet.conversation ≡ Some was → others_held ≡ old.held - stream_size was
          → stream ≡ stopped_stream was → new.held ≡ min (others_held + stream_size stream) (2 ^ 64 - 1)
          → hash_map_len new.streams ≡ hash_map_len old.streams
          → new.streams.entries ≡ set_value (same tcp_packet.conversation) old.streams.entries stream
          → ((q : Conversation) → get same new.streams q
          ≡ cond (same tcp_packet.conversation q) (Some stream) (get same old.streams q))
          → FollowsStreams same old packets → FollowsStreams same new packets
      follows_stopped old new was stream others_held there beside_is is_stopped held size entries written follows =
          let beside = beside_stream old was follows there in
          let nothing : stream_size stream ≡ 0 = ap stream_size is_stopped in
          let held : new.held ≡ others_held + stream_size stream =
          omega (arith, held, nothing, beside.1, beside.2, beside_is) in
          let counted : CountsStream stream (signals_in same tcp_packet.conversation packets)
          (arrivals_in same tcp_packet.conversation packets) =
          rw is_stopped (stopped_stream_counts was _ _ (stream_there (hash_map_len old.streams)
          (get same old.streams tcp_packet.conversation) was there (follows.each tcp_packet.conversation))) in
          record {
            each = put (hash_map_len old.streams) (hash_map_len new.streams) (get same old.streams) (get same new.streams)
                stream packets (omega (arith, size)) written
                (λ q passes. subst (λ (c : Conversation). CountsStream stream (signals_in same c packets)
                (arrivals_in same c packets)) (exact tcp_packet.conversation q passes) counted)
                (λ q other. follows.each q);
            held = by_entries old new stream entries (omega (arith, held, beside.1, beside_is, beside.3 stream));
            bounded = omega (arith, held, nothing, beside.1, beside.2, beside_is);
          }

      -- its stream is new
      pub follows_started : (old new : Streams S H) (streams : HashMap Conversation Stream S) (fresh stream : Stream)
          (inserted : Option Stream) → streams ≡ old.streams → get same old.streams tcp_packet.conversation ≡ None
          → hash_map_len streams < STREAM_COUNT → IsFresh fresh → StreamTakes old.held fresh tcp_packet packet stream
          → new.held ≡ min (old.held + stream_size stream) (2 ^ 64 - 1)
          → inserted ≡ get same streams tcp_packet.conversation
          → hash_map_len new.streams ≡ hash_map_len streams + cond (is_some inserted) 0 1
          → PutsEntry same streams new.streams tcp_packet.conversation stream inserted
          → ((q : Conversation) → get same new.streams q
          ≡ cond (same tcp_packet.conversation q) (Some stream) (get same streams q))
          → FollowsStreams same old packets → FollowsStreams same new (packets ++ packet ∷ [])
      follows_started old new streams fresh stream inserted is_old none few is_fresh takes held inserted_is size puts written follows =
          let nothing : inserted ≡ None = inserted_is
          ∙ ap (λ (m : HashMap Conversation Stream S). get same m tcp_packet.conversation) is_old ∙ none in
          let order = rw nothing at puts in
          let order = rw is_old at order in
          let size = rw is_old at size in
          let few = rw is_old at few in
          let within = takes_bounded old.held fresh tcp_packet packet stream takes follows.bounded in
          let held : new.held ≡ old.held + stream_size stream = omega (arith, held, within) in
          let written : (q : Conversation) → get same new.streams q
          ≡ cond (same tcp_packet.conversation q) (Some stream) (get same old.streams q) =
          subst (λ (m : HashMap Conversation Stream S). (q : Conversation) → get same new.streams q
          ≡ cond (same tcp_packet.conversation q) (Some stream) (get same m q)) is_old written in
          record {
            each = put (hash_map_len old.streams) (hash_map_len new.streams) (get same old.streams) (get same new.streams)
                stream (packets ++ packet ∷ [])
                (one_more (is_some inserted) (hash_map_len old.streams) (hash_map_len new.streams) size) written
                (with_packet old.held fresh stream takes
                (stream_new (hash_map_len old.streams) (get same old.streams tcp_packet.conversation) fresh none few
                (follows.each tcp_packet.conversation) is_fresh.counts))
                (λ q other. others (hash_map_len old.streams) (get same old.streams q) q other (follows.each q));
            held = omega (
              arith,
              held,
              follows.held,
              sum_by-cons (λ (e : Conversation × Stream). stream_size e.1) (tcp_packet.conversation, stream)
                  old.streams.entries,
              sum_by-IsPermutation (λ (e : Conversation × Stream). stream_size e.1) _ _ order,
            );
            bounded = omega (arith, held, within);
          }

      -- there are as many streams as may be
      pub follows_full : (old new : Streams S H) → get same old.streams tcp_packet.conversation ≡ None
          → STREAM_COUNT ≤ hash_map_len old.streams → new ≡ old → FollowsStreams same old packets
          → FollowsStreams same new (packets ++ packet ∷ [])
      follows_full old new none full is_old follows = rw is_old (record {
        each = streams_full (hash_map_len old.streams) (get same old.streams) full none follows.each;
        held = follows.held;
        bounded = follows.bounded;
      })

      -- what its stream shows where it is stopped
      kept_of : (old : Streams S H) (o : Option Stream) → get same old.streams tcp_packet.conversation ≡ o
          → (q : Conversation) → same tcp_packet.conversation q ≡ true → get same old.streams q ≡ o
      kept_of old o there q passes =
          subst (λ (c : Conversation). get same old.streams c ≡ o) (exact tcp_packet.conversation q passes) there

      pub stops_there : (old new : Streams S H) (was stream : Stream) (others_held : ℕ)
          → get same old.streams tcp_packet.conversation ≡ Some was → others_held ≡ old.held - stream_size was
          → others_held < 2 ^ 64 → stream ≡ stopped_stream was
          → new.held ≡ min (others_held + stream_size stream) (2 ^ 64 - 1)
          → hash_map_len new.streams ≡ hash_map_len old.streams
          → ((q : Conversation) → get same new.streams q
          ≡ cond (same tcp_packet.conversation q) (Some stream) (get same old.streams q))
          → StopsOne same old tcp_packet.conversation new
      stops_there old new was stream others_held there beside_is fits is_stopped held size written = record {
        streams = λ q. written q ∙ elim (same tcp_packet.conversation q) as (λ b. same tcp_packet.conversation q ≡ b
            → cond b (Some stream) (get same old.streams q)
            ≡ cond b (option_map stopped_stream (get same old.streams q)) (get same old.streams q)) [
              | true ↦ λ passes. rw (kept_of old (Some was) there q passes) (ap Some is_stopped)
              | false ↦ λ other. refl
            ] refl;
        held =
            let nothing : stream_size stream ≡ 0 = ap stream_size is_stopped in
            rw there (omega (arith, held, nothing, fits, beside_is));
        len = size;
      }

      pub stops_new : (old new : Streams S H) → get same old.streams tcp_packet.conversation ≡ None
          → new.streams ≡ old.streams → new.held ≡ old.held → StopsOne same old tcp_packet.conversation new
      stops_new old new none streams held = record {
        streams = λ q. ap (λ (m : HashMap Conversation Stream S). get same m q) streams
            ∙ elim (same tcp_packet.conversation q) as (λ b. same tcp_packet.conversation q ≡ b
            → get same old.streams q
            ≡ cond b (option_map stopped_stream (get same old.streams q)) (get same old.streams q)) [
              | true ↦ λ passes. rw (kept_of old None none q passes) refl
              | false ↦ λ other. refl
            ] refl;
        held = rw none (omega (arith, held));
        len = ap hash_map_len streams;
      }
