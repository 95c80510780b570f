-- Headers that are read by two calls.
use Rattle.std.proofs.Common.{◌≡◌, ℕ, ◌+◌, ◌-◌, ◌*◌, ◌≤◌, List, ◌++◌, length, suc, get_or, take, drop, Err, Option}
use Rattle.std.proofs.Common.{Some, arith, refl, sym, ap, ◌∙◌, length-append, length-drop}
use Rattle.std.proofs.KnownBytes.{Consumes-trans}
use Rattle.std.proofs.lemmas.List.{take_at, drop_at, get_or_append_left, length-take-le}
use Rattle.std.proofs.lemmas.Slice.{take-put_mid}
use Rattle.std.specs.Io.KnownBytes.{Consumes}
use borrow.Rule.Slice.PartMut.{put_mid}
use Rattle.ep_ext.specs.Raw.{IsRawExt, raw_of, raw_len}
use Rattle.ep_ext.specs.Fragment.{IsFragment, fragment_header_of}
use Rattle.ep_ext.specs.Auth.{IsAuth, auth_of, auth_len, auth_at}
use Rattle.ep_ext.specs.Limited.{Limited, Takes}
use Rattle.ep_ext.specs.Reads.{RefusesHeader, RefusesAuth, RefusesAuthWithin, HasContentFault, IsIo, IsAuthIo}
use Rattle.ep_ext.specs.Reads.{IsAuthLimitedIo, auth_error}
use Rattle.ep_ext.specs.declared.err.ip_auth.header_error.HeaderError.{HeaderError}
use Rattle.ep_ext.specs.declared.err.ip_auth.header_limited_read_error.HeaderLimitedReadError.{HeaderLimitedReadError}
use Rattle.ep_ext.specs.declared.err.ip_auth.header_limited_read_error.HeaderLimitedReadError.TheVariants as auth_limited
use Rattle.ep_ext.specs.declared.err.ip_auth.header_read_error.HeaderReadError.{HeaderReadError}
use Rattle.ep_ext.specs.declared.err.ip_auth.header_read_error.HeaderReadError.TheVariants as auth_read
use Rattle.ep_base.specs.declared.err.slice_error.SliceError.TheVariants as slice_error
use Rattle.ep_ext.specs.declared.err.io.limited_read_error.LimitedReadError.{LimitedReadError}
use Rattle.ep_ext.specs.declared.err.io.limited_read_error.LimitedReadError.TheVariants as limited
use Rattle.ep_ext.proofs.Alone.{raw_read, fragment_read, auth_read}

-- the contents of a buffer into which first the prefix was written, and then the bytes after it
pub joined : (least size : ℕ) (prefix tail before : List ℕ) → length prefix ≡ least
    → length tail ≡ size - least → least ≤ size →
    take size (put_mid least (size - least) (prefix ++ drop least before) tail) ≡ prefix ++ tail
joined least size prefix tail before whole rest enough =
    grind (arith, length-append, take-put_mid, take_at)

-- how many bytes are requested after the prefix
pub requested : (least size : ℕ) (prefix before : List ℕ) → length prefix ≡ least
    → size ≤ length before → least ≤ size →
    length (take (size - least) (drop least (prefix ++ drop least before))) ≡ size - least
requested least size prefix before whole fits enough =
    grind (arith, drop_at, length-drop, length-take-le)

pub second : (prefix tail : List ℕ) → 2 ≤ length prefix
    → get_or (prefix ++ tail) 1 0 ≡ get_or prefix 1 0
second prefix tail enough = get_or_append_left prefix tail 0 1 (omega arith)

pub raw_joined : (prefix tail : List ℕ) → length prefix ≡ 8 → length tail ≡ raw_len prefix - 8
    → IsRawExt (prefix ++ tail)
raw_joined prefix tail whole rest = grind (arith, length-append, second)

auth_joined : (prefix tail : List ℕ) → length prefix ≡ 12 → 12 ≤ auth_len prefix
    → length tail ≡ auth_len prefix - 12 → IsAuth (prefix ++ tail)
auth_joined prefix tail whole enough rest = grind (arith, length-append, second)

pub raw_len_again : (prefix following : List ℕ) (size : ℕ) → length prefix ≡ 8
    → size ≡ raw_len (prefix ++ following) → size ≡ raw_len prefix
raw_len_again prefix following size whole is = grind (arith, second)

pub auth_len_again : (prefix following : List ℕ) (size : ℕ) → length prefix ≡ 12
    → size ≡ auth_len (prefix ++ following) → size ≡ auth_len prefix
auth_len_again prefix following size whole is = grind (arith, second)

-- the header that two calls put into a buffer
pub auth_written : (prefix tail before : List ℕ) (size : ℕ) → length prefix ≡ 12
    → size ≡ auth_len (prefix ++ drop 12 before) → 12 ≤ size → length tail ≡ size - 12 →
    (take size (put_mid 12 (size - 12) (prefix ++ drop 12 before) tail) ≡ prefix ++ tail)
    × IsAuth (prefix ++ tail)
auth_written prefix tail before size whole is enough rest =
    let len = auth_len_again prefix (drop 12 before) size whole is in (
      joined 12 size prefix tail before whole rest enough,
      grind (arith, auth_joined),
    )

-- what is read by two calls is read
pub takes_both : {T : Type 0} (remaining : T → Option (List ℕ)) (a b c : Limited T) (xs ys : List ℕ)
    → Takes remaining a xs b → Takes remaining b ys c → Takes remaining a (xs ++ ys) c
takes_both {T = T} remaining a b c xs ys first more =
    let len = length-append xs ys in
    let read : b.read_len ≡ a.read_len + length xs =
    ap {A = Limited T} (λ r. r.read_len) first.counted in
    let limit : b.max_len ≡ a.max_len = ap {A = Limited T} (λ r. r.max_len) first.counted in
    let count : b.read_len + length ys ≡ a.read_len + length (xs ++ ys) = omega arith in
    record {
      within = omega (arith, more.within);
      consumed = Consumes-trans (remaining a.reader) (remaining b.reader)
          (remaining c.reader) xs ys first.consumed more.consumed;
      counted = more.counted ∙ ap {A = Limited T} {B = Limited T}
          (λ r. record r { reader = c.reader; read_len = b.read_len + length ys }) first.counted
          ∙ ap {A = ℕ} {B = Limited T} (λ n. record a { reader = c.reader; read_len = n }) count;
    }

-- known bytes start with what a reader gave
pub consumed_some : (known new : Option (List ℕ)) (all header : List ℕ) → known ≡ Some all
    → Consumes known new header → (rest : List ℕ) × (all ≡ header ++ rest) × (new ≡ Some rest)
consumed_some known new all header is consumed = grind arith

-- what a reader gives is the header that is next
pub raw_next : (known new : Option (List ℕ)) (header rest read : List ℕ) → IsRawExt header
    → known ≡ Some (header ++ rest) → IsRawExt read → Consumes known new read →
    (raw_of read ≡ raw_of header) × (new ≡ Some rest)
raw_next known new header rest read is_header is is_read consumed =
    let given = consumed_some known new (header ++ rest) read is consumed in
    let same = raw_read (header ++ rest) read given.0 header rest is_read given.1 is_header refl in
    grind arith

pub fragment_next : (known new : Option (List ℕ)) (header rest read : List ℕ) → IsFragment header
    → known ≡ Some (header ++ rest) → IsFragment read → Consumes known new read →
    (fragment_header_of read ≡ fragment_header_of header) × (new ≡ Some rest)
fragment_next known new header rest read is_header is is_read consumed =
    let given = consumed_some known new (header ++ rest) read is consumed in
    let same = fragment_read (header ++ rest) read given.0 header rest is_read
    given.1 is_header refl in
    grind arith

pub auth_next : (known new : Option (List ℕ)) (header rest read : List ℕ) → IsAuth header
    → known ≡ Some (header ++ rest) → IsAuth read → Consumes known new read →
    (auth_of read ≡ auth_of header) × (new ≡ Some rest)
auth_next known new header rest read is_header is is_read consumed =
    let given = consumed_some known new (header ++ rest) read is consumed in
    let same = auth_read (header ++ rest) read given.0 header rest is_read given.1 is_header refl in
    grind arith

-- both have the same second byte
same_second : (header rest prefix following : List ℕ) → header ++ rest ≡ prefix ++ following
    → 2 ≤ length header → 2 ≤ length prefix → get_or prefix 1 0 ≡ get_or header 1 0
same_second header rest prefix following same enough fits = grind (arith, second)

-- 12 bytes of a length byte that is not 0 have no fault
pub not_zero : (prefix : List ℕ) (e : HeaderError) (b : ℕ)
    → auth_at prefix ≡ Err (slice_error.Content e) → length prefix ≡ 12 → get_or prefix 1 0 ≡ suc b → ⊥
not_zero prefix e b fault whole is = grind arith

no_fault : (known new : Option (List ℕ)) (prefix header rest : List ℕ) (e : HeaderError)
    → IsAuth header → known ≡ Some (header ++ rest) → HasContentFault prefix e
    → Consumes known new prefix → ⊥
no_fault known new prefix header rest e is_header is fault consumed =
    grind (arith, consumed_some, same_second, not_zero)

pub auth_refused : (known new : Option (List ℕ)) (e : HeaderReadError) (header rest : List ℕ)
    → IsAuth header → known ≡ Some (header ++ rest) → RefusesAuth known e new → IsAuthIo e
auth_refused known new e header rest is_header is refused = grind (arith, no_fault)

module _ {T : Type 0} (remaining : T → Option (List ℕ)) where
  -- a header that is next and within the limit is refused only where a read failed
  refused_next : (least : ℕ) (size : List ℕ → ℕ) (start new : Limited T) (e : LimitedReadError)
      (header rest : List ℕ) →
      ((prefix : List ℕ) → length prefix ≡ least → get_or prefix 1 0 ≡ get_or header 1 0
      → size prefix ≡ length header) → 2 ≤ least → least ≤ length header →
      start.read_len ≡ 0 → length header ≤ start.max_len
      → remaining start.reader ≡ Some (header ++ rest)
      → RefusesHeader remaining least size start e new → IsIo e
  refused_next least size start new e header rest sized two enough begins fits known refused =
      grind (arith, consumed_some, same_second)

  pub raw_refused : (start new : Limited T) (e : LimitedReadError) (header rest : List ℕ)
      → IsRawExt header →
      start.read_len ≡ 0 → length header ≤ start.max_len
      → remaining start.reader ≡ Some (header ++ rest)
      → RefusesHeader remaining 8 raw_len start e new → IsIo e
  raw_refused start new e header rest is_header begins fits known refused =
      refused_next 8 raw_len start new e header rest
      (λ prefix whole same. ap (λ n. (n + 1) * 8) same ∙ sym is_header.whole)
      (omega arith) is_header.least begins fits known refused

  auth_read_error_io : (e : LimitedReadError) → IsIo e → IsAuthLimitedIo (auth_error e)
  auth_read_error_io (limited.Io e) h = tt
  auth_read_error_io (limited.Len e) h = h

  pub auth_within : (start new : Limited T) (e : LimitedReadError)
      → RefusesHeader remaining 12 auth_len start e new
      → RefusesAuthWithin remaining start (auth_error e) new
  auth_within start new (limited.Io e) h = h
  auth_within start new (limited.Len e) h = h

  auth_long : (start new : Limited T) (e : LimitedReadError) (header rest : List ℕ)
      → IsAuth header →
      start.read_len ≡ 0 → length header ≤ start.max_len
      → remaining start.reader ≡ Some (header ++ rest)
      → RefusesHeader remaining 12 auth_len start e new → IsIo e
  auth_long start new e header rest is_header begins fits known refused =
      refused_next 12 auth_len start new e header rest
      (λ prefix whole same. ap (λ n. (n + 2) * 4) same ∙ sym is_header.whole)
      (omega arith) is_header.least begins fits known refused

  pub auth_refused_within : (start new : Limited T) (e : HeaderLimitedReadError)
      (header rest : List ℕ) → IsAuth header →
      start.read_len ≡ 0 → length header ≤ start.max_len
      → remaining start.reader ≡ Some (header ++ rest)
      → RefusesAuthWithin remaining start e new → IsAuthLimitedIo e
  auth_refused_within start new (auth_limited.Io e) header rest is_header begins
      fits known refused = tt
  auth_refused_within start new (auth_limited.Len e) header rest is_header
      begins fits known refused =
      auth_long start new (limited.Len e) header rest is_header begins fits known refused
  auth_refused_within start new (auth_limited.Content e) header rest is_header
      begins fits known refused =
      no_fault (remaining start.reader) (remaining new.reader) refused.0 header rest e is_header
      known refused.1 refused.2.consumed
