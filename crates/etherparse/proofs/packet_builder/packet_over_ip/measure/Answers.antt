use Rattle.std.proofs.Common.{◌≡◌, ap, sym, ℕ, true, false, Result, Ok, Err, IfOk, IfErr, MatchOption}
use Rattle.ep_base.specs.declared.err.value_too_big_error.ValueTooBigError.{ValueTooBigError}
use Rattle.ep_packet.specs.declared.net.ip_headers.IpHeaders.{IpHeaders}
use Rattle.etherparse.specs.Built.{too_long}
use Rattle.etherparse.specs.declared.err.packet.build_write_error.BuildWriteError.{BuildWriteError}
use Rattle.etherparse.specs.declared.err.packet.build_write_error.BuildWriteError.TheVariants.{PayloadLen}
use Rattle.etherparse.proofs.packet_builder.packet_over_ip.measure.Goals as goal

no_ok : (r : Result Unit (ValueTooBigError ℕ)) (x : ValueTooBigError ℕ) → r ≡ Ok tt → r ≡ Err x → ⊥
no_ok r x ok err = cc

same : (r : Result Unit (ValueTooBigError ℕ)) (x y : ValueTooBigError ℕ) → r ≡ Err x → r ≡ Err y
    → x ≡ y
same r x y one other = cc

abbrev it : BuildWriteError → Result Unit BuildWriteError
it e = Err e

refused : (w : Result IpHeaders (ValueTooBigError ℕ)) (r : Result Unit (ValueTooBigError ℕ))
    (h : IpHeaders) (x : ValueTooBigError ℕ)
    → IfOk w (λ new. (r ≡ Ok tt) × (h ≡ new)) → IfErr w (λ e. r ≡ Err e) → r ≡ Err x
    → MatchOption (too_long w) (false ≡ true)
    (λ e. it (PayloadLen x) ≡ it e)
refused (Ok new) r h x ok err is = absurd (no_ok r x ok.0 is)
refused (Err y) r h x ok err is = ap (λ e. it (PayloadLen e)) (same r x y is err)

pub returns-in-Err-clause-refusal : goal.returns-in-Err-clause-refusal
returns-in-Err-clause-refusal g c =
    let len = c.len_after-len.ensures in
    rw (sym len) (refused _ _ _ _ c.set_payload_len.ensures.ok c.set_payload_len.ensures.err c.in-Err.is)
