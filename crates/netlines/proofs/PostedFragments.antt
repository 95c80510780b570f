-- What the frames of a message in fragments are read as.
use Rattle.std.proofs.lemmas.Bool.Decides.{nat_tests}
use Rattle.std.proofs.Common.{◌≡◌, ◌∙◌, ap, ℕ, ◌+◌, ◌-◌, ◌*◌, ◌/◌, ◌%◌, ◌≤◌, ◌<◌, [], Bool, true, false, if◌then◌else◌}
use Rattle.std.proofs.Common.{List, ◌∷◌, length, take, drop, map, Option, Some, None, arith}
use Rattle.std.specs.Prelude.{nat_lt}
use Rattle.std.proofs.lemmas.List.{length-take, length-drop}
use Rattle.std.proofs.lemmas.Bool.{ltb-false}
use Rattle.etherparse.specs.ip.Ipv4.{is_fragmenting}
use Rattle.etherparse.specs.packet.Class.{class_of}
use Rattle.netlines.specs.Letter.{LetterFits, fragment_class}
use Rattle.netlines.specs.Posted.{PostedFragment, frame, is_fragmented, fragments_from, posted_frames}
use Rattle.netlines.specs.PostRefusal.{bad_cut_from, is_good_cut, long_fragment_from, names_extension, post_refusal}
use Rattle.netlines.specs.PostRefusal.{room}
use Rattle.netlines.specs.declared.letter.Letter.{Letter}
use Rattle.netlines.proofs.LetterLemmas.{headers_fit}
use Rattle.netlines.proofs.PostedFrames.{FragmentIsRead, frame_is_fragment}
use Rattle.netlines.proofs.UnrefusedLemmas.{unrefused}

fragmenting : (more : Bool) (offset : ℕ) → (more ≡ false → 0 < offset)
    → is_fragmenting more offset ≡ true
fragmenting more offset some = grind arith

-- what each test says of a cut and of a fragment
pub record IsGoodCut (len before cut : ℕ) : Type 0 where
  pub units : cut % 8 ≡ 0
  pub following : before < cut
  pub within : cut < len

good_cut : (len before cut : ℕ) → is_good_cut len before cut ≡ true → IsGoodCut len before cut
good_cut len before cut is = grind arith

goes_on : (b : Bool) (n : ℕ) (o : Option ℕ) → (if b then o else Some n) ≡ None
    → (b ≡ true) × (o ≡ None)
goes_on b n o is = grind arith

passes : (b : Bool) (n : ℕ) (o : Option ℕ) → (if b then Some n else o) ≡ None
    → (b ≡ false) × (o ≡ None)
passes b n o is = grind arith

-- the rest of a message of so many bytes, from this offset on, can be sent with these cuts: in more
-- than one fragment, none of them longer than this
pub record Goes (room len start : ℕ) (later rest : List ℕ) : Type 0 where
  pub index : ℕ
  pub position : ℕ
  pub short : len ≤ 65535
  pub all : start + length rest ≡ len
  pub units : start % 8 ≡ 0
  pub several : 8 ≤ start + 8 * length later
  pub good : bad_cut_from len start index later ≡ None
  pub fits : long_fragment_from room position (fragments_from start later rest) ≡ None

module _ (room len start : ℕ) where
  pub last_fits : (rest : List ℕ) → Goes room len start [] rest → length rest ≤ room
  last_fits rest goes = grind arith

  module _ (cut : ℕ) (later rest : List ℕ) (goes : Goes room len start (cut ∷ later) rest) where
    abbrev text : List ℕ
    text = take (cut - start) rest

    abbrev following : List ℕ
    following = drop (cut - start) rest

    next_cut : (is_good_cut len start cut ≡ true)
        × (bad_cut_from len cut (goes.index + 1) later ≡ None)
    next_cut = grind arith

    next_fragment : (nat_lt room (length text) ≡ false)
        × (long_fragment_from room (goes.position + 1) (fragments_from cut later following) ≡ None)
    next_fragment = grind arith

    pub is_good : IsGoodCut len start cut
    is_good = good_cut len start cut next_cut.0

    pub text_len : length text ≡ cut - start
    text_len = grind (arith, is_good, length-take)

    pub text_fits : length text ≤ room
    text_fits = ltb-false room (length text) next_fragment.0

    pub goes_after : Goes room len cut later following
    goes_after = let good = is_good in grind (arith, length-drop, next_cut, next_fragment)

pub goes_from_start : (letter : Letter) (message cuts : List ℕ)
    → post_refusal letter message cuts ≡ None → is_fragmented cuts ≡ true
    → Goes (room letter.version_id true) (length message) 0 cuts message
goes_from_start letter message cuts sent cut = grind arith

module _ (letter : Letter) (law : FragmentIsRead) (fit : LetterFits letter)
    (number : names_extension letter.version_id letter.number.0 ≡ false) where
  pub fragment_is_read : (posted_fragment : PostedFragment) → length posted_fragment.text ≤ room letter.version_id true
      → posted_fragment.offset < 8192 → (posted_fragment.more ≡ false → 0 < posted_fragment.offset)
      → class_of (frame letter true posted_fragment) ≡ fragment_class letter posted_fragment
  fragment_is_read posted_fragment short small some =
      frame_is_fragment letter law posted_fragment.offset posted_fragment.more
      (headers_fit letter true posted_fragment.offset posted_fragment.more small fit) posted_fragment.text
      (record { number = number; fits = short }) (fragmenting posted_fragment.more posted_fragment.offset some)

  pub last_is_read : (len start : ℕ) (rest : List ℕ)
      → Goes (room letter.version_id true) len start [] rest
      → class_of (frame letter true (record { offset = start / 8; more = false; text = rest }))
      ≡ fragment_class letter (record { offset = start / 8; more = false; text = rest })
  last_is_read len start rest goes = grind (arith, nat_tests, fragment_is_read, last_fits)

  pub first_is_read : (len start cut : ℕ) (later rest : List ℕ)
      → Goes (room letter.version_id true) len start (cut ∷ later) rest
      → class_of (frame letter true
      (record { offset = start / 8; more = true; text = take (cut - start) rest }))
      ≡ fragment_class letter
      (record { offset = start / 8; more = true; text = take (cut - start) rest })
  first_is_read len start cut later rest goes =
      grind (arith, nat_tests, fragment_is_read, text_fits)

  classes_from : (len start : ℕ) (later rest : List ℕ)
      → Goes (room letter.version_id true) len start later rest
      → map class_of (map (frame letter true) (fragments_from start later rest))
      ≡ map (fragment_class letter) (fragments_from start later rest)
  classes_from len start [] rest goes = ap (λ class. class ∷ []) (last_is_read len start rest goes)
  classes_from len start (cut ∷ later) rest goes =
      grind (
        arith,
        classes_from len cut later (drop (cut - start) rest),
        first_is_read,
        goes_after,
      )

pub posted_classes : (letter : Letter) → FragmentIsRead → LetterFits letter
    → (message cuts : List ℕ) → post_refusal letter message cuts ≡ None → is_fragmented cuts ≡ true
    → map class_of (posted_frames letter message cuts)
    ≡ map (fragment_class letter) (fragments_from 0 cuts message)
posted_classes letter law fit message cuts sent cut =
    (λ i. map class_of (map (frame letter (cut i)) (fragments_from 0 cuts message)))
    ∙ classes_from letter law fit (unrefused letter message cuts sent).number
    (length message) 0 cuts message (goes_from_start letter message cuts sent cut)
