-- Texts in a page of HTML.
use Rattle.std.specs.Prelude.{ℕ, zero, suc, ◌==◌, ◌||◌, ◌&&◌, if◌then◌else◌, Bool, true, false, List, [], ◌∷◌, codes, drop}
use Rattle.std.specs.List.{flat_map}

-- whether a byte means something in HTML: `<`, `>`, `&`, `"`, `'`, and the carriage return, which would be read
-- as a line feed (WHATWG HTML, section 13.2.3.5)
abbrev pub is_markup : ℕ → Bool
is_markup byte = (byte == 60) || (byte == 62) || (byte == 38) || (byte == 34) || (byte == 39) || (byte == 13)

-- what stands for a byte in a text (WHATWG HTML, section 13.1.4: character references)
abbrev pub reference_of : ℕ → List ℕ
reference_of byte =
    if byte == 60 then codes "&lt;" else (if byte == 62 then codes "&gt;"
    else (if byte == 38 then codes "&amp;" else (if byte == 34 then codes "&quot;"
    else (if byte == 39 then codes "&#39;" else (if byte == 13 then codes "&#13;" else byte ∷ [])))))

abbrev pub escaped : List ℕ → List ℕ
escaped text = flat_map reference_of text

-- whether bytes begin with others
abbrev pub begins_with : List ℕ → List ℕ → Bool
begins_with [] bytes = true
begins_with (first ∷ rest) [] = false
begins_with (first ∷ rest) (byte ∷ bytes) = (first == byte) && begins_with rest bytes

-- a text as a browser reads it, in at most so many characters: a reference is one, a byte that means
-- nothing stands for itself, and the text ends before any other
abbrev pub read_within : (most : ℕ) → List ℕ → List ℕ
read_within zero bytes = []
read_within (suc most) [] = []
read_within (suc most) (byte ∷ bytes) =
    if begins_with (codes "&lt;") (byte ∷ bytes) then 60 ∷ read_within most (drop 3 bytes)
    else (if begins_with (codes "&gt;") (byte ∷ bytes) then 62 ∷ read_within most (drop 3 bytes)
    else (if begins_with (codes "&amp;") (byte ∷ bytes) then 38 ∷ read_within most (drop 4 bytes)
    else (if begins_with (codes "&quot;") (byte ∷ bytes) then 34 ∷ read_within most (drop 5 bytes)
    else (if begins_with (codes "&#39;") (byte ∷ bytes) then 39 ∷ read_within most (drop 4 bytes)
    else (if begins_with (codes "&#13;") (byte ∷ bytes) then 13 ∷ read_within most (drop 4 bytes)
    else (if is_markup byte then [] else byte ∷ read_within most bytes))))))
