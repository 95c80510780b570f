use Rattle.std.proofs.Common.{refl, sym, []}
use Rattle.ep_base.specs.MessageSum.{SumsWords}
use Rattle.ep_icmp.specs.Icmpv4.{layout_of}
use Rattle.ep_icmp.specs.Layout.{bytes_of_layout}
use Rattle.ep_icmp.proofs.Icmpv4After.{after_none, after_some}
use Rattle.ep_icmp.proofs.Layouts.{written_four}
use Rattle.ep_icmp.proofs.transport.icmpv4_type.Icmpv4Type.sum_with.Goals as goal

pub returns-in-Some : goal.returns-in-Some
returns-in-Some c =
    let started : SumsWords c.new.result [] = record { whole = refl; folded = c.new.ensures.text } in
    let is = after_some c.args.self.now c.in-Some.message.now (sym c.in-Some.ensures) in
    let header = rw (c.prefix_with-prefix.ensures.bytes, is, c.to_bytes.ensures.bytes) at
    (c.message_sum.ensures.text [] started) in
    rw is (rw is at (c.add_slice.ensures.text (bytes_of_layout (layout_of c.args.self.now) 0)
    (rw is refl) (rw is header)))

pub returns-in-None : goal.returns-in-None
returns-in-None c =
    let started : SumsWords c.new-in-None.result [] =
    record { whole = refl; folded = c.new-in-None.ensures.text } in
    let none = after_none c.args.self.now c.prefix_with-prefix.ensures.fits.fields
    (sym c.in-None.ensures) in
    let four = written_four (layout_of c.args.self.now).fields none in
    rw four (rw c.prefix_with-prefix.ensures.bytes at (c.message_sum-in-None.ensures.text [] started))
