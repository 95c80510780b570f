-- Headers and elements that a test of equality finds equal.
use Rattle.std.proofs.Common.{ℕ, ◌≡◌, ◌&&◌, eqb, ap, refl, rules}
use Rattle.std.proofs.lemmas.Bool.Decides.{Decides-eqb}
use Rattle.std.specs.Cmp.{booleans_Decides}
use Rattle.std.specs.Cmp.Lexicographic.{pointwise, pointwise_decides}
use Rattle.std.specs.Option.{option_eq}
use Rattle.ep_base.specs.Traits.{EqualIsSame}
use Rattle.ep_base.proofs.Same.{field, last_field, one_part, options_same, record_same, two_parts}
use Rattle.ep_tcpudp.specs.contracts.transport.tcp_header.TcpHeaderPartialEq.TheImpl as headers
use Rattle.ep_tcpudp.specs.contracts.transport.tcp_options.TcpOptionsPartialEq.TheImpl as options
use Rattle.ep_tcpudp.specs.declared.transport.tcp_header.TcpHeader.{TcpHeader}
use Rattle.ep_tcpudp.specs.declared.transport.tcp_option_element.TcpOptionElement.TheVariants.{Noop, MaximumSegmentSize}
use Rattle.ep_tcpudp.specs.declared.transport.tcp_option_element.TcpOptionElement.TheVariants.{WindowScale}
use Rattle.ep_tcpudp.specs.declared.transport.tcp_option_element.TcpOptionElement.TheVariants.{SelectiveAcknowledgementPermitted}
use Rattle.ep_tcpudp.specs.declared.transport.tcp_option_element.TcpOptionElement.TheVariants.{SelectiveAcknowledgement}
use Rattle.ep_tcpudp.specs.declared.transport.tcp_option_element.TcpOptionElement.TheVariants.{Timestamp}
use Rattle.ep_tcpudp.specs.contracts.transport.tcp_option_element.TcpOptionElementPartialEq.TheImpl as elements

same_options : EqualIsSame options.ghosts.eq
same_options a b = search rules

-- headers whose fields are the same
pub header_by_fields : {a b : TcpHeader} → a.source_port ≡ b.source_port
    → a.destination_port ≡ b.destination_port → a.sequence_number ≡ b.sequence_number
    → a.acknowledgment_number ≡ b.acknowledgment_number → a.ns ≡ b.ns → a.fin ≡ b.fin
    → a.syn ≡ b.syn → a.rst ≡ b.rst → a.psh ≡ b.psh → a.ack ≡ b.ack → a.urg ≡ b.urg → a.ece ≡ b.ece
    → a.cwr ≡ b.cwr → a.window_size ≡ b.window_size → a.checksum ≡ b.checksum
    → a.urgent_pointer ≡ b.urgent_pointer → a.options ≡ b.options → a ≡ b
header_by_fields source_port destination_port sequence_number acknowledgment_number ns fin syn rst
    psh ack urg ece cwr window_size checksum urgent_pointer options i = record {
      source_port = source_port i;
      destination_port = destination_port i;
      sequence_number = sequence_number i;
      acknowledgment_number = acknowledgment_number i;
      ns = ns i;
      fin = fin i;
      syn = syn i;
      rst = rst i;
      psh = psh i;
      ack = ack i;
      urg = urg i;
      ece = ece i;
      cwr = cwr i;
      window_size = window_size i;
      checksum = checksum i;
      urgent_pointer = urgent_pointer i;
      options = options i;
    }

pub same_header : EqualIsSame headers.ghosts.eq
same_header a b = record_same
    (field Decides-eqb (λ h. h.source_port)
    (field Decides-eqb (λ h. h.destination_port)
    (field Decides-eqb (λ h. h.sequence_number)
    (field Decides-eqb (λ h. h.acknowledgment_number)
    (field booleans_Decides (λ h. h.ns)
    (field booleans_Decides (λ h. h.fin)
    (field booleans_Decides (λ h. h.syn)
    (field booleans_Decides (λ h. h.rst)
    (field booleans_Decides (λ h. h.psh)
    (field booleans_Decides (λ h. h.ack)
    (field booleans_Decides (λ h. h.urg)
    (field booleans_Decides (λ h. h.ece)
    (field booleans_Decides (λ h. h.cwr)
    (field Decides-eqb (λ h. h.window_size)
    (field Decides-eqb (λ h. h.checksum)
    (field Decides-eqb (λ h. h.urgent_pointer)
    (last_field same_options (λ h. h.options))))))))))))))))))
    header_by_fields

same_block : EqualIsSame (λ (p q : ℕ × ℕ). eqb p.0 q.0 && eqb p.1 q.1)
same_block p q = two_parts (Decides-eqb p.0 q.0) (Decides-eqb p.1 q.1) (λ x y i. (x i, y i))
    (λ e. (ap (λ (r : ℕ × ℕ). r.0) e, ap (λ (r : ℕ × ℕ). r.1) e))

same_blocks : EqualIsSame
    (pointwise (option_eq (λ (p q : ℕ × ℕ). eqb p.0 q.0 && eqb p.1 q.1)))
same_blocks = pointwise_decides (options_same same_block)

pub same_element : EqualIsSame elements.ghosts.eq
same_element Noop Noop = (λ is. refl, λ is. refl)
same_element (MaximumSegmentSize m) (MaximumSegmentSize n) =
    one_part (Decides-eqb m n) (ap MaximumSegmentSize) (λ e. cc)
same_element (WindowScale m) (WindowScale n) = one_part (Decides-eqb m n) (ap WindowScale) (λ e. cc)
same_element SelectiveAcknowledgementPermitted SelectiveAcknowledgementPermitted =
    (λ is. refl, λ is. refl)
same_element (SelectiveAcknowledgement f r) (SelectiveAcknowledgement g s) =
    two_parts (same_block f g) (same_blocks r s) (λ x y i. SelectiveAcknowledgement (x i) (y i))
    (λ e. (cc, cc))
same_element (Timestamp v r) (Timestamp w s) =
    two_parts (Decides-eqb v w) (Decides-eqb r s) (λ x y i. Timestamp (x i) (y i)) (λ e. (cc, cc))
same_element a b = (λ is. cc, λ is. cc)
