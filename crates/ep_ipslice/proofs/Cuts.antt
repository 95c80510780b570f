-- A header, the bytes that a length bounds, and what follows.
use Rattle.std.proofs.Common.{arith, ◌≡◌, ℕ, ◌+◌, ◌≤◌, List, ◌++◌, length, take, drop, sym, ap, ◌∙◌, take-append-drop}
use Rattle.std.proofs.Common.{length-append}
use Rattle.std.proofs.lemmas.List.{take_at, drop_at, take-take, length-take-le}

-- the prefix of this length is the header and what follows it there
pub header_and_body : (bytes header rest whole body : List ℕ) (total : ℕ) → bytes ≡ header ++ rest
    → length header ≤ total
    → whole ≡ take total bytes → body ≡ drop (length header) whole → whole ≡ header ++ body
header_and_body bytes header rest whole body total parts fits cut following =
    let prefix : take (length header) whole ≡ header =
    grind (arith, take-take, take_at) in
    grind (arith, take-append-drop)

-- the bytes are header, body and what follows the length
pub header_body_rest : (bytes header rest whole body : List ℕ) (total : ℕ) → bytes ≡ header ++ rest
    → length header ≤ total
    → whole ≡ take total bytes → body ≡ drop (length header) whole
    → bytes ≡ header ++ body ++ drop total bytes
header_body_rest bytes header rest whole body total parts fits cut following =
    grind (arith, take-append-drop, header_and_body)

-- header and body have this length together
pub header_body_len : (bytes header rest whole body : List ℕ) (total : ℕ) → bytes ≡ header ++ rest
    → length header ≤ total → total ≤ length bytes
    → whole ≡ take total bytes → body ≡ drop (length header) whole
    → length header + length body ≡ total
header_body_len bytes header rest whole body total parts fits most cut following =
    sym (length-append header body)
    ∙ sym (ap length (header_and_body bytes header rest whole body total parts fits cut following))
    ∙ ap length cut ∙ length-take-le total bytes most

-- the other way: what the length bounds after a header is the body that follows it
pub body_again : (header body rest : List ℕ) (total : ℕ) → length header + length body ≡ total
    → drop (length header) (take total (header ++ body ++ rest)) ≡ body
body_again header body rest total size = grind (arith, take_at, length-append, drop_at)

-- a split after a header gives the header and what follows it
pub split_prefix : (bytes header rest prefix : List ℕ) (n : ℕ) → bytes ≡ header ++ rest
    → n ≡ length header → prefix ≡ take n bytes → prefix ≡ header
split_prefix bytes header rest prefix n parts len cut = grind (arith, take_at)

pub split_back : (bytes header rest back : List ℕ) (n : ℕ) → bytes ≡ header ++ rest
    → n ≡ length header → back ≡ drop n bytes → bytes ≡ header ++ back
split_back bytes header rest back n parts len cut = grind (arith, drop_at)

pub drop_is : (bytes header rest : List ℕ) (n : ℕ) → bytes ≡ header ++ rest
    → n ≡ length header → drop n bytes ≡ rest
drop_is bytes header rest n parts len = ap (drop n) parts ∙ drop_at header rest n (sym len)
