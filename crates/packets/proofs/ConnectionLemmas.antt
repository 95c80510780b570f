-- What is known of a connection, whatever segments of others come.
use Rattle.std.proofs.Common.{◌≡◌, ◌∙◌, sym, ap, refl, ℕ, zero, suc, ◌-◌, ◌+◌, ◌<◌, ◌≤◌, arith, not, length, filter, Bool, true, false, List, [], ◌∷◌, take, Option, Some, None}
use Rattle.std.proofs.lemmas.Bool.Decides.{nat_tests}
use Rattle.std.specs.Prelude.{if◌then◌else◌}
use Rattle.std.specs.Cmp.{IsEquivalence}
use Rattle.std.specs.List.{AllByRecursion}
use Rattle.std.specs.Option.{IsSome, option_map_or}
use Rattle.std.specs.Map.{lookup, lookup_entry, remove_entry}
use Rattle.lru.specs.LruCache.{LruCache, lru_cache, promoted, put_entries}
use Rattle.lru.proofs.CallerLemmas.{Contains-lookup_entry, lookup-put_entries}
use Rattle.packets.specs.Segments.{GoesOn, begins, initial_numbers_by, initial_numbers_of, known_after}
use Rattle.packets.specs.Segments.{known_after_all, starts_from}
use Rattle.packets.specs.declared.flows.conversation.Conversation.{Conversation}
use Rattle.packets.specs.declared.show.segment.Segment.{Segment}
use Rattle.packets.specs.declared.show.segment.Starts.{Starts}

module _ {K V : Type 0} (test : K → Bool) where
  found_entry : (entries : List (K × V)) (value : V) → lookup test entries ≡ Some value
      → (key : K) × (lookup_entry test entries ≡ Some (key, value)) × (test key ≡ true)
  found_entry [] value is = absurd (cc is)
  found_entry (entry ∷ entries) value is = (elim (test entry.0) as (λ y. test entry.0 ≡ y
      → (key : K) × (lookup_entry test (entry ∷ entries) ≡ Some (key, value)) × (test key ≡ true)) [
        | true ↦ λ t. let same = rw t at is in (entry.0, rw t (ap (λ v. Some (entry.0, v)) (cc same)), t)
        | false ↦ λ t. let later = found_entry entries value (rw t at is) in (later.0, rw t later.1, later.2)
      ]) refl

  -- of fewer entries, and of more
  found_in_more : (count : ℕ) (entries : List (K × V)) (value : V)
      → lookup test (take count entries) ≡ Some value → lookup test entries ≡ Some value
  found_in_more zero entries value is = absurd (cc is)
  found_in_more (suc count) [] value is = absurd (cc is)
  found_in_more (suc count) (entry ∷ entries) value is = (elim (test entry.0) as (λ y. test entry.0 ≡ y
      → lookup test (entry ∷ entries) ≡ Some value) [
        | true ↦ λ t. rw t (rw t at is)
        | false ↦ λ t. rw t (found_in_more count entries value (rw t at is))
      ]) refl

-- a test that passes no key that another one passes
module _ {K V : Type 0} (test other : K → Bool)
    (apart : (key : K) → other key ≡ true → test key ≡ false) where
  without_other : (entries : List (K × V)) → lookup test (remove_entry other entries) ≡ lookup test entries
  without_other [] = refl
  without_other (entry ∷ entries) = (elim (other entry.0) as (λ y. other entry.0 ≡ y
      → lookup test (remove_entry other (entry ∷ entries)) ≡ lookup test (entry ∷ entries)) [
        | true ↦ λ t. rw (t, apart entry.0 t) refl
        | false ↦ λ t. rw (t, without_other entries) refl
      ]) refl

  after_promoted : (entries : List (K × V)) (found : Option (K × V)) → lookup_entry other entries ≡ found
      → lookup test (option_map_or (λ e. e ∷ remove_entry other entries) found entries) ≡ lookup test entries
  after_promoted entries None is = refl
  after_promoted entries (Some entry) is =
      rw (apart entry.0 (Contains-lookup_entry other entries entry is).1) (without_other entries)

  after_put : (key : K) (value put : V) (count : ℕ) (entries : List (K × V)) (found : Option (K × V))
      → lookup_entry other entries ≡ found → other key ≡ true
      → lookup test (option_map_or (λ e. (e.0, put) ∷ remove_entry other entries) found
      ((key, put) ∷ take count entries)) ≡ Some value
      → lookup test entries ≡ Some value
  after_put key value put count entries None is own later =
      found_in_more test count entries value (rw (apart key own) at later)
  after_put key value put count entries (Some entry) is own later =
      sym (without_other entries) ∙ rw (apart entry.0 (Contains-lookup_entry other entries entry is).1) at later

-- ---- within the first entries

module _ {K V : Type 0} (test : K → Bool) where
  -- of so many entries, and of one more
  found_in_one_more : (count : ℕ) (entries : List (K × V)) (value : V)
      → lookup test (take count entries) ≡ Some value → lookup test (take (suc count) entries) ≡ Some value
  found_in_one_more zero entries value is = absurd (cc is)
  found_in_one_more (suc count) [] value is = absurd (cc is)
  found_in_one_more (suc count) (entry ∷ entries) value is = (elim (test entry.0) as (λ y. test entry.0 ≡ y
      → lookup test (take (suc (suc count)) (entry ∷ entries)) ≡ Some value) [
        | true ↦ λ t. rw t (rw t at is)
        | false ↦ λ t. rw t (found_in_one_more count entries value (rw t at is))
      ]) refl

  -- where only so many are kept
  found_in_kept : (count kept : ℕ) (entries : List (K × V)) (value : V) → count ≤ kept
      → lookup test (take count entries) ≡ Some value → lookup test (take count (take kept entries)) ≡ Some value
  found_in_kept zero kept entries value few is = absurd (cc is)
  found_in_kept (suc count) zero entries value few is = absurd (omega arith)
  found_in_kept (suc count) (suc kept) [] value few is = absurd (cc is)
  found_in_kept (suc count) (suc kept) (entry ∷ entries) value few is =
      (elim (test entry.0) as (λ y. test entry.0 ≡ y
      → lookup test (take (suc count) (take (suc kept) (entry ∷ entries))) ≡ Some value) [
        | true ↦ λ t. rw t (rw t at is)
        | false ↦ λ t. rw t (found_in_kept count kept entries value (omega arith) (rw t at is))
      ]) refl

module _ {K V : Type 0} (test other : K → Bool)
    (apart : (key : K) → other key ≡ true → test key ≡ false) where
  found_without_other : (count : ℕ) (entries : List (K × V)) (value : V)
      → lookup test (take count entries) ≡ Some value
      → lookup test (take count (remove_entry other entries)) ≡ Some value
  found_without_other zero entries value is = absurd (cc is)
  found_without_other (suc count) [] value is = absurd (cc is)
  found_without_other (suc count) (entry ∷ entries) value is =
      (elim (other entry.0) as (λ y. other entry.0 ≡ y
      → lookup test (take (suc count) (remove_entry other (entry ∷ entries))) ≡ Some value) [
        | true ↦ λ o. rw o (found_in_one_more test count entries value (rw (apart entry.0 o) at is))
        | false ↦ λ o. rw o ((elim (test entry.0) as (λ y. test entry.0 ≡ y
            → lookup test (take (suc count) (entry ∷ remove_entry other entries)) ≡ Some value) [
              | true ↦ λ t. rw t (rw t at is)
              | false ↦ λ t. rw t (found_without_other count entries value (rw t at is))
            ]) refl)
      ]) refl

  found_promoted : (count : ℕ) (entries : List (K × V)) (value : V) (found : Option (K × V))
      → lookup_entry other entries ≡ found → lookup test (take count entries) ≡ Some value
      → lookup test (take (suc count) (option_map_or (λ e. e ∷ remove_entry other entries) found entries))
      ≡ Some value
  found_promoted count entries value None is before = found_in_one_more test count entries value before
  found_promoted count entries value (Some entry) is before =
      rw (apart entry.0 (Contains-lookup_entry other entries entry is).1)
      (found_without_other count entries value before)

  found_put : (count kept : ℕ) (key : K) (put value : V) (entries : List (K × V)) (found : Option (K × V))
      → lookup_entry other entries ≡ found → other key ≡ true → count ≤ kept
      → lookup test (take count entries) ≡ Some value
      → lookup test (take (suc count) (option_map_or (λ e. (e.0, put) ∷ remove_entry other entries) found
      ((key, put) ∷ take kept entries))) ≡ Some value
  found_put count kept key put value entries None is own few before =
      rw (apart key own) (found_in_kept test count kept entries value few before)
  found_put count kept key put value entries (Some entry) is own few before =
      rw (apart entry.0 (Contains-lookup_entry other entries entry is).1)
      (found_without_other count entries value before)

some_value : {V : Type 0} (found : Option V) → IsSome found → (value : V) × (found ≡ Some value)
some_value None some = absurd (cc some)
some_value (Some value) some = (value, refl)

is_some_of : {V : Type 0} (found : Option V) (value : V) → found ≡ Some value → IsSome found
is_some_of found value is = rw is refl

module _ (same : Conversation → Conversation → Bool) (laws : IsEquivalence same) where
  -- an equal conversation is found as well
  found_alike : (one two : Conversation) → same one two ≡ true → (entries : List (Conversation × Starts))
      → lookup (same one) entries ≡ lookup (same two) entries
  found_alike one two equal [] = refl
  found_alike one two equal (entry ∷ entries) =
      rw (laws.congr one two entry.0 equal, found_alike one two equal entries) refl

  apart : (one two key : Conversation) → same one two ≡ false → same two key ≡ true
      → same one key ≡ false
  apart one two key differs equal = (elim (same one key) as (λ y. same one key ≡ y → y ≡ false) [
    | true ↦ λ t. absurd (let e = laws.congr one key two t in let s = laws.symm key two in cc (e, s, differs, equal))
    | false ↦ λ t. refl
  ]) refl

  module _ (connection : Conversation) (known : LruCache Conversation Starts) (segment : Segment)
      (starts : Starts) (is : lookup (same connection) known.entries ≡ Some starts) where
    abbrev own : List (Conversation × Starts)
    own = promoted (same segment.conversation) known.entries

    abbrev put : List (Conversation × Starts)
    put = put_entries same known segment.conversation (starts_from segment)

    after_own : same connection segment.conversation ≡ true → segment.syn ≡ false
        → lookup (same connection) (if begins segment (lookup (same segment.conversation) known.entries)
        then lru_cache put known.cap else lru_cache own known.cap).entries ≡ Some starts
    after_own equal calm =
        let there : lookup (same segment.conversation) known.entries ≡ Some starts =
        sym (found_alike connection segment.conversation equal known.entries) ∙ is in
        let found = found_entry (same segment.conversation) known.entries starts there in
        rw (there, calm, found.1, laws.congr connection segment.conversation found.0 equal, found.2) refl

    after_other : same connection segment.conversation ≡ false → (new : Bool)
        → IsSome (lookup (same connection) (if new then lru_cache put known.cap
        else lru_cache own known.cap).entries)
        → lookup (same connection) (if new then lru_cache put known.cap
        else lru_cache own known.cap).entries ≡ Some starts
    after_other differs true stays =
        let later = some_value _ stays in
        let before = after_put (same connection) (same segment.conversation)
        (λ key equal. apart connection segment.conversation key differs equal) segment.conversation later.0
        (starts_from segment) (known.cap - 1) known.entries
        (lookup_entry (same segment.conversation) known.entries) refl (laws.refl segment.conversation) later.1 in
        later.1 ∙ sym before ∙ is
    after_other differs false stays =
        after_promoted (same connection) (same segment.conversation)
        (λ key equal. apart connection segment.conversation key differs equal) known.entries
        (lookup_entry (same segment.conversation) known.entries) refl ∙ is

    goes_on : (same connection segment.conversation ≡ true → segment.ack ≡ true → segment.syn ≡ false)
        → IsSome (lookup (same connection) (known_after same known segment).entries)
        → lookup (same connection) (known_after same known segment).entries ≡ Some starts
    goes_on calm stays = (elim segment.ack as (λ a. segment.ack ≡ a
        → lookup (same connection) (known_after same known segment).entries ≡ Some starts) [
          | false ↦ λ a. rw a is
          | true ↦ λ a. rw a ((elim (same connection segment.conversation)
              as (λ y. same connection segment.conversation ≡ y
              → lookup (same connection) (if begins segment (lookup (same segment.conversation) known.entries)
              then lru_cache put known.cap else lru_cache own known.cap).entries ≡ Some starts) [
                | true ↦ λ equal. after_own equal (calm equal a)
                | false ↦ λ differs. after_other differs _ (rw a at stays)
              ]) refl)
        ]) refl

  module _ (connection : Conversation) (known : LruCache Conversation Starts) (segment : Segment)
      (starts : Starts) (before : ℕ)
      (is : lookup (same connection) (take (suc before) known.entries) ≡ Some starts) where
    -- one of the connection comes first
    own_is_found : same connection segment.conversation ≡ true → segment.ack ≡ true → segment.syn ≡ false
        → lookup (same connection) (take (suc before) (known_after same known segment).entries) ≡ Some starts
    own_is_found equal acks calm =
        let there : lookup (same segment.conversation) known.entries ≡ Some starts =
        sym (found_alike connection segment.conversation equal known.entries)
        ∙ found_in_more (same connection) (suc before) known.entries starts is in
        let found = found_entry (same segment.conversation) known.entries starts there in
        rw (acks, there, calm, found.1, laws.congr connection segment.conversation found.0 equal, found.2) refl

    -- one of another comes before it
    other_goes_first : same connection segment.conversation ≡ false → suc before < known.cap → (new : Bool)
        → lookup (same connection) (take (suc (suc before))
        (if new then lru_cache (put_entries same known segment.conversation (starts_from segment)) known.cap
        else lru_cache (promoted (same segment.conversation) known.entries) known.cap).entries) ≡ Some starts
    other_goes_first differs few true =
        found_put (same connection) (same segment.conversation)
        (λ key equal. apart connection segment.conversation key differs equal) (suc before) (known.cap - 1)
        segment.conversation (starts_from segment) starts known.entries
        (lookup_entry (same segment.conversation) known.entries) refl (laws.refl segment.conversation)
        (omega arith) is
    other_goes_first differs few false =
        found_promoted (same connection) (same segment.conversation)
        (λ key equal. apart connection segment.conversation key differs equal) (suc before) known.entries starts
        (lookup_entry (same segment.conversation) known.entries) refl is

    other_is_passed : same connection segment.conversation ≡ false → suc before < known.cap
        → lookup (same connection) (take (suc (suc before)) (known_after same known segment).entries)
        ≡ Some starts
    other_is_passed differs few = (elim segment.ack as (λ a. segment.ack ≡ a
        → lookup (same connection) (take (suc (suc before)) (known_after same known segment).entries)
        ≡ Some starts) [
          | false ↦ λ a. rw a (found_in_one_more (same connection) (suc before) known.entries starts is)
          | true ↦ λ a. rw a (other_goes_first differs few _)
        ]) refl

    own_is_passed : same connection segment.conversation ≡ true
        → (segment.ack ≡ true → segment.syn ≡ false)
        → lookup (same connection) (take (suc before) (known_after same known segment).entries) ≡ Some starts
    own_is_passed equal calm = (elim segment.ack as (λ a. segment.ack ≡ a
        → lookup (same connection) (take (suc before) (known_after same known segment).entries)
        ≡ Some starts) [
          | false ↦ λ a. rw a is
          | true ↦ λ a. own_is_found equal a (calm a)
        ]) refl

  same_cap : (known : LruCache Conversation Starts) (segment : Segment)
      → (known_after same known segment).cap ≡ known.cap
  same_cap known segment = grind (arith, nat_tests)

  pub stays : (connection : Conversation) (known : LruCache Conversation Starts) (starts : Starts)
      (before : ℕ) (segments : List Segment)
      → lookup (same connection) (take (suc before) known.entries) ≡ Some starts
      → AllByRecursion (λ s. same connection s.conversation ≡ true → s.ack ≡ true → s.syn ≡ false) segments
      → before + length (filter (λ s. not (same connection s.conversation)) segments) < known.cap
      → GoesOn same connection known segments
  stays connection known starts before [] is calm few = tt
  stays connection known starts before (segment ∷ segments) is calm few =
      (elim (same connection segment.conversation) as (λ y. same connection segment.conversation ≡ y
      → GoesOn same connection known (segment ∷ segments)) [
        | true ↦ λ equal.
            let after = own_is_passed connection known segment starts before is equal (calm.0 equal) in (
              calm.0,
              is_some_of _ _ (found_in_more (same connection) (suc before)
                  (known_after same known segment).entries starts after),
              stays connection (known_after same known segment) starts before segments after calm.1
                  (rw (same_cap known segment) (rw equal at few)),
            )
        | false ↦ λ differs.
            let few' = rw differs at few in
            let after = other_is_passed connection known segment starts before is differs (omega arith) in (
              calm.0,
              is_some_of _ _ (found_in_more (same connection) (suc (suc before))
                  (known_after same known segment).entries starts after),
              stays connection (known_after same known segment) starts (suc before) segments after calm.1
                  (rw (same_cap known segment) (omega arith)),
            )
      ]) refl

  first_is_found : (known : LruCache Conversation Starts) (first : Segment) (found : Option (Conversation × Starts))
      → lookup_entry (same first.conversation) known.entries ≡ found
      → lookup (same first.conversation) (take 1 (option_map_or
      (λ e. (e.0, starts_from first) ∷ remove_entry (same first.conversation) known.entries) found
      ((first.conversation, starts_from first) ∷ take (known.cap - 1) known.entries)))
      ≡ Some (starts_from first)
  first_is_found known first None is = rw (laws.refl first.conversation) refl
  first_is_found known first (Some entry) is =
      rw (Contains-lookup_entry (same first.conversation) known.entries entry is).1 refl

  pub stays_from : (known : LruCache Conversation Starts) (first : Segment) (between : List Segment)
      → first.ack ≡ true → begins first (lookup (same first.conversation) known.entries) ≡ true
      → AllByRecursion (λ s. same first.conversation s.conversation ≡ true → s.ack ≡ true → s.syn ≡ false) between
      → length (filter (λ s. not (same first.conversation s.conversation)) between) < known.cap
      → GoesOn same first.conversation (known_after_all same known (first ∷ [])) between
  stays_from known first between acks new calm few =
      let there : lookup (same first.conversation) (take 1 (known_after same known first).entries)
      ≡ Some (starts_from first) =
      rw (acks, new) (first_is_found known first (lookup_entry (same first.conversation) known.entries) refl) in
      stays first.conversation (known_after same known first) (starts_from first) 0 between there calm
      (rw (same_cap known first) (omega arith))

  all_go_on : (connection : Conversation) (known : LruCache Conversation Starts) (starts : Starts)
      (segments : List Segment) → lookup (same connection) known.entries ≡ Some starts
      → GoesOn same connection known segments
      → lookup (same connection) (known_after_all same known segments).entries ≡ Some starts
  all_go_on connection known starts [] is goes = is
  all_go_on connection known starts (segment ∷ segments) is goes =
      all_go_on connection (known_after same known segment) starts segments
      (goes_on connection known segment starts is goes.0 goes.1) goes.2

  first_is_known : (known : LruCache Conversation Starts) (first : Segment) → first.ack ≡ true
      → begins first (lookup (same first.conversation) known.entries) ≡ true
      → lookup (same first.conversation) (known_after same known first).entries ≡ Some (starts_from first)
  first_is_known known first acks new =
      rw (acks, new) (lookup-put_entries same known first.conversation (starts_from first) laws)

  pub numbers_after : (known : LruCache Conversation Starts) (first next : Segment)
      (between : List Segment) → first.ack ≡ true
      → begins first (lookup (same first.conversation) known.entries) ≡ true
      → GoesOn same first.conversation (known_after_all same known (first ∷ [])) between
      → same first.conversation next.conversation ≡ true → next.ack ≡ true → next.syn ≡ false
      → initial_numbers_of next (lookup (same next.conversation)
      (known_after_all same known (first ∷ between)).entries)
      ≡ initial_numbers_by (starts_from first) next.ascends
  numbers_after known first next between acks new goes equal acks' calm =
      let after = known_after same known first in
      let there = all_go_on first.conversation after (starts_from first) between (first_is_known known first acks new) goes in
      let there' : lookup (same next.conversation) (known_after_all same after between).entries
      ≡ Some (starts_from first) =
      sym (found_alike first.conversation next.conversation equal (known_after_all same after between).entries) ∙ there in
      rw (there', acks', calm) refl
