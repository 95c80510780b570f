use Rattle.std.proofs.Common.{sym, ap, ◌∙◌, ◌++◌, append_assoc, take, List, ℕ, Option}
use Rattle.hex.specs.Hex.{encode_lower}
use Rattle.captures.specs.Framed.{ethernet_header, frame_bytes, made_header}
use Rattle.captures.specs.declared.link.header.Header.{Header}
use Rattle.captures.proofs.FramedLemmas.{encode_lower-append}
use Rattle.captures.proofs.link.frame.Frame.append_hex.Goals as goal

pub returns-in-Some-clause-text : goal.returns-in-Some-clause-text
returns-in-Some-clause-text c =
    let rest = c.self.inside.rest.now in
    let made = c.in-Some.header in
    let header = ethernet_header made.source made.ether_type in
    let before = take c.args.used c.args.out.now in
    c.append_hex.ensures.text
    ∙ ap (λ (l : List ℕ). l ++ encode_lower rest) c.append_hex-following.ensures.text
    ∙ append_assoc before (encode_lower header) (encode_lower rest)
    ∙ ap (λ (l : List ℕ). before ++ l) (sym (encode_lower-append header rest)
    ∙ ap encode_lower (ap (λ (h : Option Header). made_header h ++ rest) (sym c.in-Some.is)
    ∙ ap frame_bytes c.self.view_is))
