use Rattle.std.proofs.Common.{rules}
use Rattle.ep_link.proofs.SameFrames.{same_frames}
use Rattle.ep_link.proofs.laws.traits.types_are_plain_data.Goals as goal

pub returns-clause-ethernet2_slice : goal.returns-clause-ethernet2_slice
returns-clause-ethernet2_slice c = record {
  copies = search rules;
  never_fails = search rules;
  equals = same_frames;
}
