use Rattle.std.proofs.Common.{◌++◌, ◌∷◌, [], arith, sym, ◌∙◌}
use Rattle.std.proofs.lemmas.Option.{cond_some}
use Rattle.ep_ip.specs.Skip.{is_skipped, required_len}
use Rattle.ep_ip.proofs.SkipWalk.{turns_le, walk_on}
use Rattle.ep_ip.proofs.net.ipv6_header.Ipv6Header.walk.Goals as goal

pub overflow_add-turns : goal.overflow_add-turns
overflow_add-turns c =
    let kept = c.headers.invariant in
    omega (
      arith,
      turns_le c.args.next_header.0 c.args.slice.now kept.0 c.headers.number.0
          c.headers.rest.now c.headers.turns kept.1 kept.2 kept.3,
    )

pub headers-preserved : goal.headers-preserved
headers-preserved c =
    let kept = c.headers.invariant in
    let found = c.in-Ok.ensures.found in
    let skipped = cond_some (is_skipped c.headers.number.0)
    (required_len c.headers.number.0 c.headers.rest.now) c.in-Some.required_len
    (sym c.skipped_len.ensures ∙ c.in-Some.is) in
    let more =
    walk_on c.args.next_header.0 c.args.slice.now kept.0 c.headers.number.0 c.headers.rest.now
    c.headers.turns found.0 c.in-Ok.following.now c.in-Ok.next.0
    kept.1 kept.2 kept.3 skipped.0 found.1 found.2 found.3 in
    (kept.0 ++ found.0 ∷ [], more.0, more.1, more.2)
