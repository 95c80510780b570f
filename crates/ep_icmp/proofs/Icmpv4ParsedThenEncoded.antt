-- A header that is parsed from an ICMPv4 message is encoded by its bytes again, unused ones aside.
use Rattle.std.proofs.lemmas.Bool.Decides.{nat_tests}
use Rattle.std.proofs.Common.{◌≡◌, sym, refl, ℕ, ◌≤◌, Bool, if◌then◌else◌, List, length, slice_range, arith}
use Rattle.ep_base.specs.Bytes.{IsBytes}
use Rattle.ep_icmp.specs.Icmpv4.{ReadableIcmpv4, has_numbers, header_len, icmpv4_header_of, is_timestamp, kind_at}
use Rattle.ep_icmp.specs.Icmpv4.{kinds, layout_of, encoding, type_of}
use Rattle.ep_icmp.specs.Layout.{with_unused_bytes_zero}
use Rattle.ep_icmp.specs.declared.transport.icmpv4_type.Icmpv4Type.TheVariants.{Unknown}
use Rattle.ep_icmp.proofs.FieldsParsedThenEncoded.{IsFieldIn, echo_back, mtu_back, pointer_back, range_back}
use Rattle.ep_icmp.proofs.FieldsParsedThenEncoded.{timestamp_back, written_back}
use Rattle.ep_icmp.proofs.Found.{found_among, found_passes}
use Rattle.ep_icmp.proofs.Icmpv4Kinds.{header_len_at}
use Rattle.ep_icmp.proofs.Outcomes.{numbers_are}

-- a kind has the type and code that it was found by
numbers_at : (t c : ℕ) (m : List ℕ) → ((layout_of (kind_at t c m)).type_u8 ≡ t)
    × ((layout_of (kind_at t c m)).code_u8 ≡ c)
unfolding kind_at
numbers_at t c m =
    found_passes (has_numbers t c) (λ kind. ((layout_of kind).type_u8 ≡ t)
    × ((layout_of kind).code_u8 ≡ c)) (kinds m) (Unknown t c (slice_range m 4 8))
    (λ kind passes.
    let numbers = numbers_are (layout_of kind).type_u8 (layout_of kind).code_u8 t c passes in
    (sym numbers.0, sym numbers.1))
    (refl, refl)

-- and the bytes hold its field
fields_at : (t c : ℕ) (m : List ℕ) → IsBytes m → header_len (kind_at t c m) ≤ length m
    → IsFieldIn m (layout_of (kind_at t c m))
unfolding kind_at
fields_at t c m fits =
    found_among (has_numbers t c) (λ kind. header_len kind ≤ length m
    → IsFieldIn m (layout_of kind)) (kinds m) (Unknown t c (slice_range m 4 8)) (
      λ long. echo_back m fits
          long,
      (
        λ long.
            refl,
        (
          λ long.
              refl,
          (
            λ long.
                refl,
            (
              λ long.
                  refl,
              (
                λ long. mtu_back m fits
                    long,
                (
                  λ long.
                      refl,
                  (
                    λ long.
                        refl,
                    (
                      λ long.
                          refl,
                      (
                        λ long.
                            refl,
                        (
                          λ long.
                              refl,
                          (
                            λ long.
                                refl,
                            (
                              λ long.
                                  refl,
                              (
                                λ long.
                                    refl,
                                (
                                  λ long.
                                      refl,
                                  (
                                    λ long.
                                        refl,
                                    (
                                      λ long.
                                          refl,
                                      (
                                        λ long. range_back m
                                            long,
                                        (
                                          λ long. range_back m
                                              long,
                                          (
                                            λ long. range_back m
                                                long,
                                            (
                                              λ long. range_back m
                                                  long,
                                              (
                                                λ long. echo_back m fits
                                                    long,
                                                (
                                                  λ long.
                                                      refl,
                                                  (
                                                    λ long.
                                                        refl,
                                                    (
                                                      λ long. pointer_back m
                                                          long,
                                                      (
                                                        λ long.
                                                            refl,
                                                        (
                                                          λ long.
                                                              refl,
                                                          (
                                                            λ long. timestamp_back m fits
                                                                long,
                                                            (λ long. timestamp_back m fits long, tt),
                                                          ),
                                                        ),
                                                      ),
                                                    ),
                                                  ),
                                                ),
                                              ),
                                            ),
                                          ),
                                        ),
                                      ),
                                    ),
                                  ),
                                ),
                              ),
                            ),
                          ),
                        ),
                      ),
                    ),
                  ),
                ),
              ),
            ),
          ),
        ),
      ),
    )
    (λ long. range_back m long)

-- a message holds its kind's header
holds_header : (m : List ℕ) (timestamp : Bool) → is_timestamp m ≡ timestamp
    → header_len (type_of m) ≡ (if timestamp then 20 else 8) → ReadableIcmpv4 m
    → header_len (type_of m) ≤ length m
holds_header m timestamp is len message = grind arith

pub header_back : (m : List ℕ) → ReadableIcmpv4 m → IsBytes m
    → encoding (icmpv4_header_of m) ≡ with_unused_bytes_zero (layout_of (type_of m)) m
header_back m message fits =
    grind (arith, nat_tests, numbers_at, holds_header, header_len_at, written_back, fields_at)
