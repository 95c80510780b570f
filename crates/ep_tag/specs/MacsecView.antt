-- What a contract sees of a MACsec payload.
use Rattle.ep_tag.specs.declared.link.lax_macsec_payload_slice.LaxMacsecPayloadSlice.{LaxMacsecPayloadSlice}
use Rattle.ep_tag.specs.declared.link.lax_macsec_payload_slice.LaxMacsecPayloadSlice.TheVariants as lax_slice
use Rattle.ep_tag.specs.declared.link.macsec_payload_slice.MacsecPayloadSlice.{MacsecPayloadSlice}
use Rattle.ep_tag.specs.declared.link.macsec_payload_slice.MacsecPayloadSlice.TheVariants as slice
use Rattle.ep_tag.specs.MacsecLax.{LaxMacsecPayload, LaxUnmodified, LaxModified}
use Rattle.ep_tag.specs.MacsecPayload.{MacsecPayload, Unmodified, Modified}

abbrev pub payload_parsed : MacsecPayloadSlice → MacsecPayload
payload_parsed (slice.Unmodified p) = Unmodified p
payload_parsed (slice.Modified bytes) = Modified bytes.now

abbrev pub lax_payload_parsed : LaxMacsecPayloadSlice → LaxMacsecPayload
lax_payload_parsed (lax_slice.Unmodified p) = LaxUnmodified p
lax_payload_parsed (lax_slice.Modified incomplete bytes) = LaxModified incomplete bytes.now
