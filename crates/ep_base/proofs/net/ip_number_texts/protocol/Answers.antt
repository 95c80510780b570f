use Rattle.std.proofs.Common.{◌≡◌, ◌∙◌, ap, refl, arith}
use Rattle.ep_base.specs.IpRegistry.{text_at}
use Rattle.ep_base.proofs.RegistryTexts.{assigned, without}
use Rattle.ep_base.proofs.net.ip_number_texts.protocol.Goals as goal

pub returns-in-0-to-144 : goal.returns-in-0-to-144
returns-in-0-to-144 c =
    let n = c.args.number in
    c.text_at.ensures ∙ ap (λ texts. text_at texts n) c.protocols.ensures
    ∙ assigned (λ row. row.protocol) n refl (omega arith)

pub returns-in-145-to-252 : goal.returns-in-145-to-252
returns-in-145-to-252 c =
    without (λ row. row.protocol) 145 252 c.args.number (omega arith) (omega arith) refl
