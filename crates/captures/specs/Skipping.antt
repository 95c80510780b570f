-- Packets, counted, and those that are passed over by the reason.
use Rattle.std.specs.Prelude.{ℕ, ◌+◌, List, Result, Ok, Err}
use Rattle.captures.specs.Framed.{reported_of}
use Rattle.captures.specs.Numbers.{capped}
use Rattle.captures.specs.declared.link.kind.Link.{Link}
use Rattle.captures.specs.declared.skipped.Passing.{Passing}
use Rattle.captures.specs.declared.skipped.Reason.{Reason}
use Rattle.captures.specs.declared.skipped.Reason.TheVariants.{OtherLink, TooLong, NoFrame}
use Rattle.captures.specs.declared.skipped.Skipped.{Skipped}
use Rattle.captures.specs.declared.unfit.Unfit.{Unfit}

abbrev pub none_skipped : Skipped
none_skipped = record { of_other_links = 0; too_long = 0; without_frame = 0 }

-- before the first packet
abbrev pub passing_from : Unfit → Passing
passing_from unfit = record { unfit = unfit; skipped = none_skipped; seen = 0 }

-- one more that is passed over
abbrev pub with_reason : Skipped → Reason → Skipped
with_reason skipped OtherLink =
    record skipped { of_other_links = capped (skipped.of_other_links + 1) }
with_reason skipped TooLong = record skipped { too_long = capped (skipped.too_long + 1) }
with_reason skipped NoFrame = record skipped { without_frame = capped (skipped.without_frame + 1) }

-- one packet more: its frame is reported, or it is passed over for this reason
abbrev pub passing_with : Passing → Result (List ℕ) Reason → Passing
passing_with passing (Ok frame) = record passing { seen = capped (passing.seen + 1) }
passing_with passing (Err reason) = record passing {
  seen = capped (passing.seen + 1);
  skipped = with_reason passing.skipped reason;
}

-- after a packet that is reported or passed over. One of which no byte was captured is counted too
abbrev pub counted : Passing → Link → List ℕ → Passing
counted passing link packet = passing_with passing (reported_of link packet)
