use Rattle.std.proofs.Common.{Result, IfOk, refl, subst}
use Rattle.ep_tag.specs.MacsecPayload.{IsMacsec, Macsec, macsec_at}
use Rattle.ep_base.specs.declared.err.slice_error.SliceError.{SliceError}
use Rattle.ep_tag.specs.declared.err.macsec.header_error.HeaderError.{HeaderError}
use Rattle.ep_tag.proofs.MacsecRead.{macsec_found, macsec_only}
use Rattle.ep_tag.proofs.laws.macsec.payloads_are_found.Goals as goal

pub returns-clause-found : goal.returns-clause-found
returns-clause-found c = λ bytes macsec is. subst
    (λ (r : Result Macsec (SliceError HeaderError)). IfOk r (λ m. IsMacsec bytes m)) is
    (macsec_found bytes (macsec_at bytes) refl)

pub returns-clause-only : goal.returns-clause-only
returns-clause-only c = macsec_only
