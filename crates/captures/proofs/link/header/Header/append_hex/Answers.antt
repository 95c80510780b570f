use Rattle.std.proofs.Common.{rules, arith, ap, sym, ◌≡◌, ◌∙◌, ◌++◌, length, take, List, ℕ}
use Rattle.hex.specs.Hex.{encode_lower}
use Rattle.captures.proofs.FramedLemmas.{header_digits, header_digits_len, header_len}
use Rattle.captures.proofs.link.header.Header.append_hex.Goals as goal

pub slice_bounds-append-end : goal.slice_bounds-append-end
slice_bounds-append-end c =
    let header = c.args.self in
    let six : length header.source ≡ 6 = search rules in
    sym (header_digits_len header.source header.ether_type c.encode.new.digits six
    (c.encode.ensures ∙ ap encode_lower c.block.ensures))

pub append-requires : goal.append-requires
append-requires c =
    let header = c.args.self in
    let six : length header.source ≡ 6 = search rules in
    let room = c.requires in
    omega (
      arith,
      header_len header.source header.ether_type six,
      header_digits_len header.source header.ether_type c.encode.new.digits six
          (c.encode.ensures ∙ ap encode_lower c.block.ensures),
    )

pub returns-clause-end : goal.returns-clause-end
returns-clause-end c =
    let header = c.args.self in
    let six : length header.source ≡ 6 = search rules in
    let end = c.append.ensures.end in
    omega (
      arith,
      header_len header.source header.ether_type six,
      header_digits_len header.source header.ether_type c.encode.new.digits six
          (c.encode.ensures ∙ ap encode_lower c.block.ensures),
    )

pub returns-clause-text : goal.returns-clause-text
returns-clause-text c =
    let header = c.args.self in
    let six : length header.source ≡ 6 = search rules in
    c.append.ensures.text
    ∙ ap (λ (l : List ℕ). take c.args.used c.args.out.now ++ l)
    (ap (λ (l : List ℕ). take 28 l) (c.encode.ensures ∙ ap encode_lower c.block.ensures)
    ∙ header_digits header.source header.ether_type _ six)
