use Rattle.std.proofs.Common.{◌≡◌, ◌∙◌, ap, refl, arith}
use Rattle.ep_base.specs.IpRegistry.{text_at}
use Rattle.ep_base.proofs.RegistryTexts.{assigned, without}
use Rattle.ep_base.proofs.net.ip_number_texts.keyword.Goals as goal

pub returns-in-0-to-144 : goal.returns-in-0-to-144
returns-in-0-to-144 c =
    let n = c.args.number in
    c.text_at.ensures ∙ ap (λ texts. text_at texts n) c.keywords.ensures
    ∙ assigned (λ row. row.keyword) n refl (omega arith)

pub returns-in-145-to-254 : goal.returns-in-145-to-254
returns-in-145-to-254 c =
    without (λ row. row.keyword) 145 254 c.args.number (omega arith) (omega arith) refl
