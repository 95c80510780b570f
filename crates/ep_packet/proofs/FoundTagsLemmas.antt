-- Tags found one after the other.
use Rattle.std.proofs.Common.{◌≡◌, ◌∙◌, ℕ, zero, suc, ◌+◌, List, [], ◌∷◌, ◌++◌, Option, Some, None, Result, Ok, Err, IfErr}
use Rattle.std.proofs.Common.{IfSome, ap, append_assoc, append-nil, arith, sym}
use Rattle.std.specs.Prelude.{option_map, unwrap_or}
use Rattle.ep_packet.specs.Tags.{FoundTags, find_tags, no_tags, tags_from}

-- tags of so many bytes, and what was found after them
abbrev pub joined : {T P E : Type 0} → List T → ℕ → FoundTags T P E → FoundTags T P E
joined tags size more =
    record { tags = tags ++ more.tags; len = size + more.len; last = more.last; stop = more.stop }

pub joined_nothing : {T P E : Type 0} (found : FoundTags T P E) → joined [] 0 found ≡ found
joined_nothing found = grind arith

-- nothing more is found
joined_none : {T P E : Type 0} (tags : List T) (size : ℕ) (last : Option P) (stop : Option E)
    → joined tags size (no_tags last stop) ≡ record { tags = tags; len = size; last = last; stop = stop }
joined_none tags size last stop = grind (arith, append-nil)

joined_twice : {T P E : Type 0} (tags : List T) (size : ℕ) (tag : T) (n : ℕ) (found : FoundTags T P E)
    → joined tags size (joined (tag ∷ []) n found) ≡ joined (tags ++ tag ∷ []) (size + n) found
joined_twice tags size tag n found = grind (arith, append_assoc)

module _ {T P E : Type 0} (at : P → Result (Option T) E) (len : T → ℕ) (after : T → Option P) where
  -- what is found of a whole, where n tags may still follow those that were found
  abbrev pub SoFar : FoundTags T P E → List T → ℕ → ℕ → P → Type 0
  SoFar all tags size n p = all ≡ joined tags size (find_tags at len after n p)

  -- the next turn, where k + 1 tags may still follow
  turn : (all : FoundTags T P E) (tags : List T) (size k n : ℕ) (p : P) (r : Result (Option T) E)
      → SoFar all tags size n p → n ≡ suc k → at p ≡ r
      → all ≡ joined tags size (tags_from len after (find_tags at len after k) p r)
  turn all tags size k n p r so_far more is =
      so_far ∙ ap (λ (m : ℕ). joined tags size (find_tags at len after m p)) more
      ∙ ap (λ (x : Result (Option T) E). joined tags size (tags_from len after (find_tags at len after k) p x)) is

  -- the ends of the loop
  pub ends_untagged : (all : FoundTags T P E) (tags : List T) (size k n : ℕ) (p : P)
      → SoFar all tags size n p → n ≡ suc k → at p ≡ Ok None
      → record { tags = tags; len = size; last = Some p; stop = None } ≡ all
  ends_untagged all tags size k n p so_far more none =
      sym (turn all tags size k n p (Ok None) so_far more none ∙ joined_none tags size (Some p) None)

  pub ends_faulty : (all : FoundTags T P E) (tags : List T) (size k n : ℕ) (p : P) (e : E)
      → SoFar all tags size n p → n ≡ suc k → at p ≡ Err e
      → record { tags = tags; len = size; last = None; stop = Some e } ≡ all
  ends_faulty all tags size k n p e so_far more fault =
      sym (turn all tags size k n p (Err e) so_far more fault ∙ joined_none tags size None (Some e))

  pub ends_full : (all : FoundTags T P E) (tags : List T) (size n : ℕ) (p : P)
      → SoFar all tags size n p → n ≡ 0
      → record { tags = tags; len = size; last = Some p; stop = None } ≡ all
  ends_full all tags size n p so_far none =
      sym (so_far ∙ ap (λ (m : ℕ). joined tags size (find_tags at len after m p)) none
      ∙ joined_none tags size (Some p) None)

  -- the next turn, as the code names what it has
  goes_on : (all : FoundTags T P E) (tags more_tags : List T) (size tag_bytes k n : ℕ) (p : P) (tag : T)
      (next : Option P) → SoFar all tags size n p → n ≡ suc k → at p ≡ Ok (Some tag)
      → more_tags ≡ tags ++ tag ∷ [] → tag_bytes ≡ len tag → after tag ≡ next
      → all ≡ joined more_tags (size + tag_bytes)
      (unwrap_or (option_map (find_tags at len after k) next) (no_tags None None))
  goes_on all tags more_tags size tag_bytes k n p tag next so_far more found pushed counted named =
      rw (pushed, counted, ← named)
      (turn all tags size k n p (Ok (Some tag)) so_far more found
      ∙ joined_twice tags size tag (len tag)
      (unwrap_or (option_map (find_tags at len after k) (after tag)) (no_tags None None)))

  pub goes_on_some : (all : FoundTags T P E) (tags more_tags : List T) (size tag_bytes k n : ℕ) (p : P)
      (tag : T) (next : P) → SoFar all tags size n p → n ≡ suc k → at p ≡ Ok (Some tag)
      → more_tags ≡ tags ++ tag ∷ [] → tag_bytes ≡ len tag → after tag ≡ Some next
      → SoFar all more_tags (size + tag_bytes) k next
  goes_on_some all tags more_tags size tag_bytes k n p tag next =
      goes_on all tags more_tags size tag_bytes k n p tag (Some next)

  pub goes_on_none : (all : FoundTags T P E) (tags more_tags : List T) (size tag_bytes k n : ℕ) (p : P)
      (tag : T) → SoFar all tags size n p → n ≡ suc k → at p ≡ Ok (Some tag)
      → more_tags ≡ tags ++ tag ∷ [] → tag_bytes ≡ len tag → after tag ≡ None
      → record { tags = more_tags; len = size + tag_bytes; last = None; stop = None } ≡ all
  goes_on_none all tags more_tags size tag_bytes k n p tag so_far more found pushed counted named =
      sym (goes_on all tags more_tags size tag_bytes k n p tag None so_far more found pushed counted named
      ∙ joined_none more_tags (size + tag_bytes) None None)

  -- the fault at which they end is one of a tag
  module _ (Q : E → Type 0) (each : (p : P) → IfErr (at p) Q) where
    further_stop : (k : ℕ) (o : Option P) → ((q : P) → IfSome (find_tags at len after k q).stop Q)
        → IfSome (unwrap_or (option_map (find_tags at len after k) o) (no_tags None None)).stop Q
    further_stop k None known = tt
    further_stop k (Some q) known = known q

    stop_from : (k : ℕ) (p : P) (r : Result (Option T) E) → ((q : P) → IfSome (find_tags at len after k q).stop Q)
        → IfErr r Q → IfSome (tags_from len after (find_tags at len after k) p r).stop Q
    stop_from k p (Err e) known fault = fault
    stop_from k p (Ok None) known fault = tt
    stop_from k p (Ok (Some t)) known fault = further_stop k (after t) known

    pub stop_is : (n : ℕ) (p : P) → IfSome (find_tags at len after n p).stop Q
    stop_is zero p = tt
    stop_is (suc n) p = stop_from n p (at p) (stop_is n) (each p)
