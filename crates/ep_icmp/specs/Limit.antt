-- Payloads of ICMPv6 messages, whose length with the header has 32 bits in the pseudo header (RFC
-- 8200, section 8.1).
use Rattle.std.specs.Prelude.{◌≡◌, ℕ, ◌-◌, ◌^◌, ◌<◌, ◌≤◌, Result, Ok, Err}
use Rattle.ep_base.specs.Bounded.{too_big}
use Rattle.ep_base.specs.declared.err.value_too_big_error.ValueTooBigError.{ValueTooBigError}
use Rattle.ep_base.specs.declared.err.value_type.ValueType.TheVariants.{Icmpv6PayloadLength}

-- the greatest length of a payload: that of a message in 32 bits, less the 8 bytes of the header
abbrev pub greatest_payload : ℕ
greatest_payload = 2 ^ 32 - 1 - 8

-- `Ok` of the answer for a payload of up to that length, and else an error that names both
abbrev pub IsWithin : {A : Type 0} → A → ℕ → Result A (ValueTooBigError ℕ) → Type 0
IsWithin answer len (Ok a) = (len ≤ greatest_payload) × (a ≡ answer)
IsWithin answer len (Err e) = (greatest_payload < len)
    × (e ≡ too_big Icmpv6PayloadLength greatest_payload len)
