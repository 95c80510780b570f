-- Bytes once what is late is written.
use Rattle.std.proofs.Common.{◌≡◌, ℕ, ◌+◌, ◌-◌, ◌<◌, ◌≤◌, Bool, true, false, not, leb, ◌⊎◌, ◌↔◌, inl, inr, Option, Some, None}
use Rattle.std.proofs.Common.{List, [], ◌∷◌, ◌++◌, length, max, min, take, drop, get_or, unwrap_or, arith, sym, ap, ◌∙◌, refl, subst}
use Rattle.std.proofs.lemmas.Bool.{cases_lt}
use Rattle.std.proofs.lemmas.Bool.Decides.{nat_tests}
use Rattle.std.proofs.lemmas.List.{take_all, take_more, get_or-take, get_or_past, length-take, get_or-drop, length-drop}
use Rattle.std.proofs.lemmas.List.FromFn.{fill_by_all, get_or-map-range_with_len, length-map-range_with_len}
use Rattle.std.specs.Option.{option_or}
use Rattle.std.specs.Global.{Box}
use Rattle.std.specs.Prelude.{IsTrue, is_some}
use Rattle.etherparse.specs.IpDefragBuf.{Writes}
use Rattle.etherparse.specs.StoredFragment.{HasBytes}
use Rattle.etherparse.specs.DeferredBytes.{AreInRoom, EndBy, HasBytesAfter, Late, Write, byte_after, byte_of_write, bytes_after}
use Rattle.etherparse.specs.DeferredBytes.{bytes_with, late_byte, late_in, late_len, with_write}

option_or-none : {X : Type 0} (a : Option X) → option_or a None ≡ a
option_or-none None = refl
option_or-none (Some x) = refl

-- ---- single bytes

pub byte_here : (w : Write) (p : ℕ) → w.start ≤ p → p < w.start + length w.bytes
    → byte_of_write w p ≡ Some (get_or w.bytes (p - w.start) 0)
byte_here w p a b = grind (arith, nat_tests)

pub byte_elsewhere : (w : Write) (p : ℕ) → (p < w.start) ⊎ (w.start + length w.bytes ≤ p)
    → byte_of_write w p ≡ None
byte_elsewhere w p h = grind (arith, nat_tests)

pub late_byte-push : (ws : List Write) (w : Write) (p : ℕ)
    → late_byte (ws ++ w ∷ []) p ≡ option_or (byte_of_write w p) (late_byte ws p)
late_byte-push [] w p = sym (option_or-none (byte_of_write w p))
late_byte-push (v ∷ ws) w p = grind (arith, late_byte-push ws w p)

unwrap_twice : (a b : Option ℕ) (n : ℕ) → unwrap_or (option_or a b) n ≡ unwrap_or a (unwrap_or b n)
unwrap_twice (Some x) b n = refl
unwrap_twice None b n = refl

pub byte_after-push : (ws : List Write) (w : Write) (there : List ℕ) (p : ℕ)
    → byte_after (ws ++ w ∷ []) there p ≡ unwrap_or (byte_of_write w p) (byte_after ws there p)
byte_after-push ws w there p = grind (arith, late_byte-push, unwrap_twice)

-- no write has an index from the end of all of them on
late_past : (ws : List Write) (len p : ℕ) → EndBy len ws → len ≤ p → late_byte ws p ≡ None
late_past [] len p h le = refl
late_past (w ∷ ws) len p h le =
    grind (arith, late_past ws len p h.1 le, byte_elsewhere w p (inr (omega (arith, h.0, le))))

byte_past : (ws : List Write) (there : List ℕ) (len p : ℕ) → EndBy len ws → length there ≤ len
    → len ≤ p → byte_after ws there p ≡ 0
byte_past ws there len p h short le = grind (arith, late_past, get_or_past)

-- ---- all bytes

pub after_len : (ws : List Write) (there : List ℕ) (len : ℕ) → length (bytes_after ws there len) ≡ len
after_len ws there len = length-map-range_with_len (byte_after ws there) 0 len

pub after_at : (ws : List Write) (there : List ℕ) (len p : ℕ) → p < len
    → get_or (bytes_after ws there len) p 0 ≡ byte_after ws there p
after_at ws there len p h = get_or-map-range_with_len (byte_after ws there) 0 len p p 0 h (omega arith)

-- bytes that are these at each index
pub after_is : (ws : List Write) (there xs : List ℕ) (len : ℕ) → length xs ≡ len
    → ((p : ℕ) → p < len → get_or xs p 0 ≡ byte_after ws there p) → xs ≡ bytes_after ws there len
after_is ws there xs len long h = fill_by_all (byte_after ws there) xs len 0 long h

pub none_late : (there : List ℕ) (len : ℕ) → length there ≡ len → bytes_after [] there len ≡ there
none_late there len is = sym (after_is [] there there len is (λ p h. refl))

-- how many bytes there are with what is late, and which where nothing is
pub with_len : (late : Late) (there : List ℕ) → length (bytes_with late there) ≡ late.len
with_len late there = after_len late.writes there late.len

pub as_long : (late : Option (Box Late)) (xs ys : List ℕ) → length xs ≡ length ys
    → (late_in late xs).len ≡ (late_in late ys).len
as_long None xs ys same = same
as_long (Some late) xs ys same = refl

pub with_none : (late : Option (Box Late)) (there : List ℕ) → late ≡ None
    → there ≡ bytes_with (late_in late there) there
with_none late there none = rw none (sym (none_late there (length there) refl))

pub is_none_by : {X : Type 0} (o : Option X) (b : Bool) → is_some o ≡ not b → b ≡ true → o ≡ None
is_none_by None b means is = refl
is_none_by (Some x) b means is = absurd (cc (means, is))

-- those below an index
pub after_cut : (ws : List Write) (there cut : List ℕ) (len n : ℕ) → n ≤ len → cut ≡ take n there
    → bytes_after ws cut n ≡ take n (bytes_after ws there len)
after_cut ws there cut len n le is =
    sym (after_is ws cut (take n (bytes_after ws there len)) n
    (omega (arith, length-take n (bytes_after ws there len), after_len ws there len))
    (λ p h. let at = after_at ws there len p (omega (arith, h, le)) in
    grind (arith, get_or-take)))

pub cut_with : (late now : Late) (seen there cut : List ℕ) (n : ℕ) → bytes_with late there ≡ seen
    → n ≤ late.len → cut ≡ take n there → now.writes ≡ late.writes → now.len ≡ n
    → bytes_with now cut ≡ take n seen
cut_with late now seen there cut n sees le is same len =
    ap (λ (ws : List Write). bytes_after ws cut now.len) same
    ∙ ap (λ (k : ℕ). bytes_after late.writes cut k) len
    ∙ after_cut late.writes there cut late.len n le is ∙ ap (λ (xs : List ℕ). take n xs) sees

pub all_below : (late : Late) (seen there : List ℕ) (n : ℕ) → bytes_with late there ≡ seen
    → late.len ≤ n → bytes_with late there ≡ take n seen
all_below late seen there n sees le =
    sees ∙ sym (take_all n seen (omega (arith, le, ap (λ (xs : List ℕ). length xs) sees, with_len late there)))

-- one more write that is late
pub writes_late : (ws : List Write) (w : Write) (there : List ℕ) (len new : ℕ) → length there ≤ len
    → new ≡ max len (w.start + length w.bytes) → EndBy len ws ⊎ (new ≡ len)
    → Writes (bytes_after ws there len) (bytes_after (ws ++ w ∷ []) there new) w.start w.bytes
writes_late ws w there len new short is ends =
    let old = bytes_after ws there len in
    let all = ws ++ w ∷ [] in
    let old_len = after_len ws there len in
    let new_len = after_len all there new in
    record {
      size = omega (arith, old_len, new_len, is);
      written = λ p l h. after_at all there new p (omega (arith, h, is)) ∙ byte_after-push ws w there p
          ∙ rw (byte_here w p l h) refl;
      kept = λ p out.
          let none = byte_elsewhere w p out in
          let same : byte_after all there p ≡ byte_after ws there p = byte_after-push ws w there p ∙ rw none refl in
          elim (cases_lt p len) [
            | inl below ↦ after_at all there new p (omega (arith, below, is)) ∙ same ∙ sym (after_at ws there len p below)
            | inr past ↦
                let gone : get_or old p 0 ≡ 0 = get_or_past old p 0 (omega (arith, past, old_len)) in
                elim (cases_lt p new) [
                  | inl within ↦ elim ends [
                    | inl by ↦ after_at all there new p within ∙ same ∙ byte_past ws there len p by short past ∙ sym gone
                    | inr stays ↦ absurd (omega (arith, within, past, stays))
                  ]
                  | inr beyond ↦ get_or_past (bytes_after all there new) p 0 (omega (arith, beyond, new_len)) ∙ sym gone
                ]
          ];
    }

-- none ends after a later end
pub end_later : (ws : List Write) (len new : ℕ) → len ≤ new → EndBy len ws → EndBy new ws
end_later [] len new le h = tt
end_later (w ∷ ws) len new le h = (omega (arith, h.0, le), end_later ws len new le h.1)

pub end_push : (ws : List Write) (w : Write) (len : ℕ) → EndBy len ws → w.start + length w.bytes ≤ len
    → EndBy len (ws ++ w ∷ [])
end_push [] w len h le = (le, tt)
end_push (v ∷ ws) w len h le = (h.0, end_push ws w len h.1 le)

-- where one more is late, and nothing comes after what was cut
pub in_room_late : (late : Late) (w : Write) (there : List ℕ) (new capacity : ℕ)
    → AreInRoom late there capacity → new ≡ max late.len (w.start + length w.bytes)
    → w.start + length w.bytes ≤ capacity → w.start + length w.bytes ≤ 65535
    → AreInRoom (with_write w new late) there capacity
in_room_late late w there new capacity are is fits short = record {
  written = omega (arith, are.written, is);
  fits = omega (arith, are.fits, is, fits);
  short = omega (arith, are.short, is, short);
  within = λ whole. end_push late.writes w new
      (end_later late.writes late.len new (omega (arith, is)) (are.within whole)) (omega (arith, is));
}

-- where none is late
pub in_room_now : (there : List ℕ) (capacity : ℕ) → length there ≤ capacity → length there ≤ 65535
    → AreInRoom (late_in None there) there capacity
in_room_now there capacity fits short =
    record { written = omega arith; fits = fits; short = short; within = λ whole. tt }

pub writes_now : (seen flushed new bytes : List ℕ) (start : ℕ) → flushed ≡ seen
    → Writes flushed new start bytes → Writes seen (bytes_with (late_in None new) new) start bytes
writes_now seen flushed new bytes start is w =
    subst (λ (xs : List ℕ). Writes xs (bytes_after [] new (length new)) start bytes) is
    (subst (λ (ys : List ℕ). Writes flushed ys start bytes) (sym (none_late new (length new) refl)) w)

pub late_ends : (ws : List Write) (len new : ℕ) (cut : Bool) → (cut ≡ false → EndBy len ws)
    → len ≤ new → (cut ≡ true → new ≤ len) → EndBy len ws ⊎ (new ≡ len)
late_ends ws len new false within le whole = inl (within refl)
late_ends ws len new true within le whole = inr (omega (arith, le, whole refl))

-- ---- one more of them is written

pub one_more_written : (ws : List Write) (i : ℕ) (w : Write) (there old new : List ℕ) (p : ℕ)
    → i < length ws → w ≡ get_or ws i w → get_or old p 0 ≡ byte_after (take i ws) there p
    → get_or new p 0 ≡ byte_after (w ∷ []) old p → get_or new p 0 ≡ byte_after (take (i + 1) ws) there p
one_more_written ws i w there old new p lt is had has =
    has ∙ unwrap_twice None (byte_of_write w p) (get_or old p 0)
    ∙ ap (λ (n : ℕ). unwrap_or (byte_of_write w p) n) had
    ∙ sym (ap (λ (vs : List Write). byte_after vs there p) (take_more ws i w lt)
    ∙ ap (λ (v : Write). byte_after (take i ws ++ v ∷ []) there p) (sym is)
    ∙ byte_after-push (take i ws) w there p)

late_len-push : (ws : List Write) (w : Write)
    → late_len (ws ++ w ∷ []) ≡ late_len ws + length w.bytes
late_len-push [] w = omega arith
late_len-push (v ∷ ws) w = omega (arith, late_len-push ws w)

pub late_len-more : (ws : List Write) (i : ℕ) (w : Write) → i < length ws → w ≡ get_or ws i w
    → late_len (take (i + 1) ws) ≡ late_len (take i ws) + length w.bytes
late_len-more ws i w lt is =
    ap late_len (take_more ws i w lt)
    ∙ ap (λ (v : Write). late_len (take i ws ++ v ∷ [])) (sym is) ∙ late_len-push (take i ws) w

-- ---- bytes that are compared

pub compared : (ws : List Write) (there bytes : List ℕ) (len start : ℕ)
    → HasBytes (bytes_after ws there len) start bytes
    ↔ ((start + length bytes ≤ len) × HasBytesAfter ws there start bytes)
compared ws there bytes len start =
    let long = after_len ws there len in (
      (λ h. let fits : start + length bytes ≤ len = omega (arith, h.fits, long) in
          (fits, λ k below. sym (after_at ws there len (start + k) (omega (arith, fits, below))) ∙ h.same k below)),
      (λ h. record {
        fits = omega (arith, h.0, long);
        same = λ k below. after_at ws there len (start + k) (omega (arith, h.0, below)) ∙ h.1 k below;
      }),
    )

-- the last write has those from `first` to `last`, and the other bytes are those of the earlier ones
module _ (ws : List Write) (w : Write) (there bytes : List ℕ) (start first end last : ℕ)
    (first_is : first ≡ min (w.start - start) (length bytes))
    (end_is : end ≡ min (w.start + length w.bytes) 18446744073709551615)
    (last_is : last ≡ max (min (end - start) (length bytes)) first)
    (short : start + length bytes ≤ 65535) where
  read_inside : (j : ℕ) → j < last - first
      → get_or (take (last - first) (drop first bytes)) j 0 ≡ get_or bytes (first + j) 0
  read_inside j h = grind (arith, get_or-take, get_or-drop)

  by_write : (k : ℕ) → first ≤ k → k < last
      → byte_after (ws ++ w ∷ []) there (start + k) ≡ get_or w.bytes (start + k - w.start) 0
  by_write k a b =
      byte_after-push ws w there (start + k)
      ∙ rw (byte_here w (start + k) (omega (arith, a, b, first_is, last_is)) (omega (arith, a, b, first_is, last_is, end_is))) refl

  not_before : (k : ℕ) → k < first
      → byte_after (ws ++ w ∷ []) there (start + k) ≡ byte_after ws there (start + k)
  not_before k a =
      byte_after-push ws w there (start + k)
      ∙ rw (byte_elsewhere w (start + k) (inl (omega (arith, a, first_is)))) refl

  not_after : (k : ℕ) → last ≤ k → k < length bytes
      → byte_after (ws ++ w ∷ []) there (start + k) ≡ byte_after ws there (start + k)
  not_after k a b =
      byte_after-push ws w there (start + k)
      ∙ rw (byte_elsewhere w (start + k) (inr (omega (arith, a, b, first_is, last_is, end_is, short)))) refl

  pub all_after : (0 < length (take (last - first) (drop first bytes))
      → HasBytes w.bytes (start + first - w.start) (take (last - first) (drop first bytes)))
      → HasBytesAfter ws there start (take first bytes)
      → HasBytesAfter ws there (start + last) (drop last bytes)
      → HasBytesAfter (ws ++ w ∷ []) there start bytes
  all_after inside before after k below =
      elim (cases_lt k first) [
        | inl early ↦
            not_before k early ∙ before k (omega (arith, early, first_is, length-take first bytes))
            ∙ get_or-take first bytes k 0 early
        | inr late ↦ elim (cases_lt k last) [
          | inl within ↦
              let j = k - first in
              let at : start + first - w.start + j ≡ start + k - w.start =
              omega (arith, late, within, first_is, last_is) in
              let on : first + j ≡ k = omega (arith, late) in
              let i = inside (omega (
                arith,
                late,
                within,
                first_is,
                last_is,
                length-take (last - first) (drop first bytes),
                length-drop first bytes,
              )) in
              by_write k late within ∙ ap (λ (n : ℕ). get_or w.bytes n 0) (sym at)
              ∙ i.same j (omega (
                arith,
                late,
                within,
                first_is,
                last_is,
                length-take (last - first) (drop first bytes),
                length-drop first bytes,
              ))
              ∙ read_inside j (omega (arith, late, within)) ∙ ap (λ (n : ℕ). get_or bytes n 0) on
          | inr past ↦
              let j = k - last in
              let on : last + j ≡ k = omega (arith, past) in
              let at : start + last + j ≡ start + k = omega (arith, past) in
              not_after k past below ∙ ap (λ (n : ℕ). byte_after ws there n) (sym at)
              ∙ after j (omega (arith, past, below, length-drop last bytes))
              ∙ get_or-drop last bytes j 0 ∙ ap (λ (n : ℕ). get_or bytes n 0) on
        ]
      ]

  pub inside_of : HasBytesAfter (ws ++ w ∷ []) there start bytes
      → 0 < length (take (last - first) (drop first bytes))
      → HasBytes w.bytes (start + first - w.start) (take (last - first) (drop first bytes))
  inside_of all long =
      let some : first < last =
      omega (arith, long, length-take (last - first) (drop first bytes), length-drop first bytes) in
      record {
        fits = omega (arith, some, first_is, last_is, end_is, length-take (last - first) (drop first bytes), length-drop first bytes);
        same = λ j below.
            let within : j < last - first =
            omega (arith, below, length-take (last - first) (drop first bytes)) in
            let at : start + first - w.start + j ≡ start + (first + j) - w.start =
            omega (arith, some, first_is, last_is) in
            ap (λ (n : ℕ). get_or w.bytes n 0) at
            ∙ sym (by_write (first + j) (omega arith) (omega (arith, within)))
            ∙ all (first + j) (omega (arith, within, first_is, last_is)) ∙ sym (read_inside j within);
      }

  pub before_of : HasBytesAfter (ws ++ w ∷ []) there start bytes
      → HasBytesAfter ws there start (take first bytes)
  before_of all k below =
      let early : k < first = omega (arith, below, length-take first bytes) in
      sym (not_before k early) ∙ all k (omega (arith, below, length-take first bytes))
      ∙ sym (get_or-take first bytes k 0 early)

  pub after_of : HasBytesAfter (ws ++ w ∷ []) there start bytes
      → HasBytesAfter ws there (start + last) (drop last bytes)
  after_of all j below =
      let within : last + j < length bytes = omega (arith, below, length-drop last bytes) in
      let at : start + last + j ≡ start + (last + j) = omega arith in
      ap (λ (n : ℕ). byte_after ws there n) at ∙ sym (not_after (last + j) (omega arith) within)
      ∙ all (last + j) within ∙ sym (get_or-drop last bytes j 0)

-- ---- what a comparison returns

pub not_so : {P Q : Type 0} (r : Bool) → r ≡ false → IsTrue r ↔ P → (Q → P) → IsTrue false ↔ Q
not_so r fails means of = ((λ f. cc f), (λ q. let holds = means.1 (of q) in cc (holds, fails)))

pub just_so : {P Q : Type 0} (r : Bool) → IsTrue r ↔ P → (P → Q) → (Q → P) → IsTrue r ↔ Q
just_so r means to of = ((λ holds. to (means.0 holds)), (λ q. means.1 (of q)))

pub not_longer : {Q : Type 0} (a b : ℕ) → b < a → (Q → a ≤ b) → IsTrue (leb a b) ↔ Q
not_longer a b lt fits =
    let long : leb a b ≡ false = grind (arith, nat_tests) in
    ((λ t. absurd (cc (t, long))), (λ q. absurd (omega (arith, lt, fits q))))
