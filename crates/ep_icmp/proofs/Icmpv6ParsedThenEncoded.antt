-- A header that is parsed from an ICMPv6 message is encoded by its bytes again, unused ones aside.
use Rattle.std.proofs.Common.{◌≡◌, sym, refl, ℕ, ◌≤◌, List, length, slice_range, arith}
use Rattle.ep_base.specs.Bytes.{IsBytes, num}
use Rattle.ep_icmp.specs.Icmpv6.{ReadableIcmpv6, has_numbers, icmpv6_header_of, kind_at, kinds, layout_of, encoding}
use Rattle.ep_icmp.specs.Icmpv6.{type_of}
use Rattle.ep_icmp.specs.Layout.{with_unused_bytes_zero}
use Rattle.ep_icmp.specs.declared.transport.icmpv6_type.Icmpv6Type.TheVariants.{Unknown}
use Rattle.ep_icmp.proofs.FieldsParsedThenEncoded.{IsFieldIn, echo_back, number_back, range_back, written_back}
use Rattle.ep_icmp.proofs.Found.{found_among, found_passes}
use Rattle.ep_icmp.proofs.Outcomes.{numbers_are}

-- a kind has the type and code that it was found by
numbers_at : (t c : ℕ) (m : List ℕ) → ((layout_of (kind_at t c m)).type_u8 ≡ t)
    × ((layout_of (kind_at t c m)).code_u8 ≡ c)
unfolding kind_at
numbers_at t c m =
    found_passes (has_numbers t c) (λ kind. ((layout_of kind).type_u8 ≡ t)
    × ((layout_of kind).code_u8 ≡ c)) (kinds m) (Unknown t c (slice_range m 4 8))
    (λ kind passes.
    let numbers = numbers_are (layout_of kind).type_u8 (layout_of kind).code_u8 t c passes in
    (sym numbers.0, sym numbers.1))
    (refl, refl)

-- and the bytes hold its field
fields_at : (t c : ℕ) (m : List ℕ) → IsBytes m → 8 ≤ length m
    → IsFieldIn m (layout_of (kind_at t c m))
unfolding kind_at
fields_at t c m fits =
    found_among (has_numbers t c) (λ kind. 8 ≤ length m → IsFieldIn m (layout_of kind)) (kinds m)
    (Unknown t c (slice_range m 4 8)) (
      λ long. refl,
      (
        λ long. refl,
        (
          λ long. refl,
          (
            λ long. refl,
            (
              λ long. refl,
              (
                λ long. refl,
                (
                  λ long. refl,
                  (
                    λ long. number_back m fits
                        long,
                    (
                      λ long.
                          refl,
                      (
                        λ long.
                            refl,
                        (
                          λ long. number_back m fits
                              long,
                          (
                            λ long. number_back m fits
                                long,
                            (
                              λ long. number_back m fits
                                  long,
                              (
                                λ long. number_back m fits
                                    long,
                                (
                                  λ long. number_back m fits
                                      long,
                                  (
                                    λ long. number_back m fits
                                        long,
                                    (
                                      λ long. number_back m fits
                                          long,
                                      (
                                        λ long. number_back m fits
                                            long,
                                        (
                                          λ long. number_back m fits
                                              long,
                                          (
                                            λ long. number_back m fits
                                                long,
                                            (
                                              λ long. number_back m fits
                                                  long,
                                              (
                                                λ long. echo_back m fits
                                                    long,
                                                (λ long. echo_back m fits long, tt),
                                              ),
                                            ),
                                          ),
                                        ),
                                      ),
                                    ),
                                  ),
                                ),
                              ),
                            ),
                          ),
                        ),
                      ),
                    ),
                  ),
                ),
              ),
            ),
          ),
        ),
      ),
    )
    (λ long. range_back m long)

pub header_back : (m : List ℕ) → ReadableIcmpv6 m → IsBytes m
    → encoding (icmpv6_header_of m) ≡ with_unused_bytes_zero (layout_of (type_of m)) m
header_back m message fits =
    let numbers = numbers_at (num m 0 1) (num m 1 1) m in
    grind (arith, written_back, fields_at)
