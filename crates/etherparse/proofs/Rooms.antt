-- Buffers that are the same whatever their memory, and the memory that a fragment finds.
use Rattle.std.proofs.Common.{arith, List, subst, sym}
use mathlib.Core.Logic.{∥∥₁_map}
use Rattle.etherparse.specs.Fragments.{Fragment}
use Rattle.etherparse.specs.IpDefragBuf.{Contents, IsSound, SameButRoom, Shows, with_room}
use Rattle.etherparse.specs.Room.{NoLessRoom, Room}

pub shows_with_room : {N : Type 0} (buf : Contents N) (room : Room) (fs : List Fragment)
    → Shows buf fs → Shows (with_room buf room) fs
shows_with_room buf room fs shows = record {
  ended = shows.ended;
  kept = shows.kept;
  apart = shows.apart;
  numbers = shows.numbers;
  offsets = shows.offsets;
  stored_fragments = shows.stored_fragments;
}

pub sound_with_room : {N : Type 0} (buf : Contents N) (room : Room) → IsSound buf
    → IsSound (with_room buf room)
sound_with_room buf room sound = record {
  shows_accepted = ∥∥₁_map sound.shows_accepted (λ p. (p.0, p.1, shows_with_room buf room p.0 p.2));
  ordered = sound.ordered;
}

pub still_shows : {N : Type 0} (old new : Contents N) (fs : List Fragment) → SameButRoom old new
    → Shows old fs → Shows new fs
still_shows old new fs same shows =
    subst (λ (b : Contents _). Shows b fs) (sym same) (shows_with_room old new.room fs shows)

pub no_less_more : (a b c : Room) → NoLessRoom a b → NoLessRoom b c → NoLessRoom a c
no_less_more a b c first second = omega (arith, first, second)
