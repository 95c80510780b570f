-- Options of neighbor discovery are parsed again from the bytes that encode them.
use Rattle.std.proofs.Common.{◌≡◌, ℕ, ◌+◌, ◌*◌, ◌/◌, ◌%◌, ◌≤◌, List, ◌∷◌, ◌++◌, length}
use Rattle.std.proofs.Common.{IsTrue, replicate, refl, ap, ◌∙◌, arith}
use Rattle.std.proofs.lemmas.Bool.Decides.{nat_tests}
use Rattle.std.proofs.lemmas.List.{take_all}
use Rattle.std.specs.Int.{w32, to_be_bytes}
use Rattle.ep_base.specs.Bytes.{num}
use Rattle.ep_base.proofs.Numbers.{four_again}
use Rattle.ep_icmp.specs.NdpOptions.{AreUnits, IsOption, OptionsComeBack, is_unknown, of_kind}
use Rattle.ep_icmp.specs.NdpOptions.{option_of_kind}
use Rattle.ep_icmp.specs.declared.transport.icmpv6.ndp.ndp_option.NdpOption.TheVariants as option
use Rattle.ep_icmp.proofs.NdpHeaders.{two_flags}

-- the second byte of an option of so many units
units_are : (content : List ℕ) (units : ℕ) → 2 + length content ≡ 8 * units
    → (2 + length content) / 8 ≡ units
units_are content units e = omega arith

of_units : (kind : ℕ) (content : List ℕ) (units : ℕ) → AreUnits (2 + length content) units
    → IsOption (of_kind kind content)
of_units kind content units are =
    record {
      some = omega (arith, are.0, are.1, units_are content units are.0);
      whole = omega (arith, are.0, units_are content units are.0);
    }

of_servers : (lifetime : ℕ) (addresses content : List ℕ) (units : ℕ)
    → (2 + length content) / 8 ≡ units → 3 ≤ units → units % 2 ≡ 1
    → num (25 ∷ ((2 + length content) / 8) ∷ 0 ∷ 0 ∷ to_be_bytes w32 lifetime ++ addresses) 4 4 ≡ lifetime
    → option_of_kind 25 ((2 + length content) / 8)
    (25 ∷ ((2 + length content) / 8) ∷ 0 ∷ 0 ∷ to_be_bytes w32 lifetime ++ addresses)
    ≡ option.RecursiveDnsServer lifetime addresses
of_servers lifetime addresses content units is least odd time = grind (arith, nat_tests)

of_names : (lifetime : ℕ) (names content : List ℕ) (units : ℕ)
    → (2 + length content) / 8 ≡ units → 2 ≤ units
    → num (31 ∷ ((2 + length content) / 8) ∷ 0 ∷ 0 ∷ to_be_bytes w32 lifetime ++ names) 4 4 ≡ lifetime
    → option_of_kind 31 ((2 + length content) / 8)
    (31 ∷ ((2 + length content) / 8) ∷ 0 ∷ 0 ∷ to_be_bytes w32 lifetime ++ names)
    ≡ option.DnsSearchList lifetime names
of_names lifetime names content units is least time = grind (arith, nat_tests)

of_none : (kind units : ℕ) (bytes : List ℕ) → IsTrue (is_unknown kind units)
    → option_of_kind kind units (kind ∷ units ∷ bytes) ≡ option.Unknown kind bytes
of_none kind units bytes none = grind (arith, nat_tests)

pub options_come_back : OptionsComeBack
options_come_back (option.SourceLinkLayerAddress address) fits =
    (of_units 1 address fits.0 fits.1, refl)
options_come_back (option.TargetLinkLayerAddress address) fits =
    (of_units 2 address fits.0 fits.1, refl)
options_come_back (option.PrefixInformation p) fits =
    let whole = take_all 16 p.prefix (omega (arith, fits.2)) in
    let size : length p.prefix ≡ 16 = fits.2 in (
      record { some = grind (arith); whole = grind arith },
      grind (arith, two_flags p.on_link p.autonomous, four_again p.valid_lifetime fits.0, four_again p.preferred_lifetime fits.1),
    )
options_come_back (option.RedirectedHeader packet) fits = (
  of_units 4 (replicate 6 0 ++ packet) fits.0
      (omega (arith, fits.1), omega (arith, fits.1), omega (arith, fits.1)),
  refl,
)
options_come_back (option.Mtu mtu) fits = (
  record { some = omega arith; whole = refl },
  ap (λ (n : ℕ). option.Mtu n) (four_again mtu fits),
)
options_come_back (option.RecursiveDnsServer lifetime addresses) fits =
    let n = fits.1.0 in
    let content : List ℕ = 0 ∷ 0 ∷ to_be_bytes w32 lifetime ++ addresses in
    let size : 2 + length content ≡ 8 * (1 + 2 * n) = omega (arith, fits.1) in
    let units = units_are content (1 + 2 * n) size in
    let time = four_again lifetime fits.0 in (
      of_units 25 content (1 + 2 * n) (size, omega (arith, fits.1), omega (arith, fits.1)),
      of_servers lifetime addresses content (1 + 2 * n) units (omega (arith, fits.1)) (omega arith) time,
    )
options_come_back (option.DnsSearchList lifetime names) fits =
    let n = fits.1.0 in
    let content : List ℕ = 0 ∷ 0 ∷ to_be_bytes w32 lifetime ++ names in
    let size : 2 + length content ≡ 8 * n = omega (arith, fits.1.1) in
    let units = units_are content n size in
    let time = four_again lifetime fits.0 in (
      of_units 31 content n (size, omega (arith, fits.1.1), omega (arith, fits.1.1)),
      of_names lifetime names content n units (omega (arith, fits.1.1)) time,
    )
options_come_back (option.Unknown kind bytes) fits =
    let units = units_are bytes fits.0 fits.1.0 in (
      of_units kind bytes fits.0 fits.1,
      ap (λ (n : ℕ). option_of_kind kind n (kind ∷ n ∷ bytes)) units ∙ of_none kind fits.0 bytes fits.2,
    )
