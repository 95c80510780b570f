use Rattle.std.proofs.Common.{rules, arith, refl, ap, subst, sym, ◌∙◌, ◌≡◌, ℕ, List, [], length, Some, None, vec_capacity}
use Rattle.std.proofs.lemmas.Option.{slice_get_within}
use Rattle.indexmap.specs.IndexMap.{get, index_map_len, insert_index, spare as names_room}
use Rattle.etherparse.specs.IpDefragBuf.{Contents, HasRoom}
use Rattle.etherparse.specs.declared.defrag.reassembly.Reassembly.{Reassembly}
use Rattle.etherparse.proofs.TableTotals.{found_at}
use Rattle.etherparse.proofs.Tracked.{entries_refused, entries_started}
use Rattle.etherparse.proofs.Tracked.{entries_waiting, first_refused, held_fits, part_fits, tracks_ended, tracks_replaced}
use Rattle.etherparse.proofs.Tracked.{tracks_same, tracks_started}
use Rattle.etherparse.specs.ReassemblyTable.{fragment_of}
use Rattle.etherparse.proofs.Waiting.{first_waits}
use Rattle.etherparse.proofs.BufferSlots.{ended_slots, fewer_slots, same_slots}
use Rattle.etherparse.specs.Memory.{CanBegin, capacities, memory_of}
use Rattle.etherparse.specs.Starts.{room_for}
use Rattle.etherparse.proofs.ReassemblyRooms.{TakenNext, begins, each_is, first_has_room, given_back, keeps_started}
use Rattle.etherparse.proofs.ReassemblyRooms.{keeps_going, keeps_gone, keeps_whole, slot_left, taken_next}
use Rattle.etherparse.proofs.defrag.reassembly.add_fragment.Goals as goal

bytes_room : {a b : Contents Unit} → a ≡ b → a.room.for_bytes ≡ b.room.for_bytes
bytes_room = ap (λ (c : Contents Unit). c.room.for_bytes)

sections_room : {a b : Contents Unit} → a ≡ b → a.room.for_sections ≡ b.room.for_sections
sections_room = ap (λ (c : Contents Unit). c.room.for_sections)

pub finish-requires-in-Ok-add : goal.finish-requires-in-Ok-add
finish-requires-in-Ok-add g c =
    c.take-bytes.ensures.slots _
    (fewer_slots _ _ _ (omega arith) (c.make_room.ensures.slots (search rules)))

pub returns-in-Ok-clause-slots : goal.returns-in-Ok-clause-slots
returns-in-Ok-clause-slots g c =
    ended_slots _ _ _ _ c.finish.ensures.slots (search rules) c.requires.slots (search rules)

pub returns-in-Ok-add-clause-slots : goal.returns-in-Ok-add-clause-slots
returns-in-Ok-add-clause-slots g c =
    c.finish-in-Ok-add.ensures.slots _
    (c.take-bytes.ensures.slots _
    (same_slots _ _ _ (search rules) (c.make_room.ensures.slots (search rules))))

pub returns-in-Ok-2-add-clause-slots : goal.returns-in-Ok-2-add-clause-slots
returns-in-Ok-2-add-clause-slots g c =
    c.take-bytes.ensures.slots _
    (same_slots _ _ _ (search rules) (c.make_room.ensures.slots (search rules)))

pub returns-in-Err-add-clause-slots : goal.returns-in-Err-add-clause-slots
returns-in-Err-add-clause-slots g c =
    c.give_back.ensures.slots _
    (c.take-bytes.ensures.slots _
    (same_slots _ _ _ (search rules) (c.make_room.ensures.slots (search rules))))

pub returns-in-Ok-2-add-clause-accepted : goal.returns-in-Ok-2-add-clause-accepted
returns-in-Ok-2-add-clause-accepted g c kept fs shows begins =
    first_waits kept c.args.rule (fragment_of c.args.received.now) c.args.timestamp _ _ fs
    (search rules) shows begins (search rules) (search rules) (search rules)

pub returns-then-not-make_room-clause-memory : goal.returns-then-not-make_room-clause-memory
returns-then-not-make_room-clause-memory g c =
    keeps_gone _ _ _ _ _ _ (each_is _ _ c.make_room.ensures.buffers.bytes)
    (each_is _ _ c.make_room.ensures.buffers.sections) (search rules)

pub returns-in-Err-clause-memory : goal.returns-in-Err-clause-memory
returns-in-Err-clause-memory g c =
    keeps_gone _ _ _ _ _ _ (each_is _ _ refl) (each_is _ _ refl) (search rules)

pub returns-in-Err-Stays-clause-memory : goal.returns-in-Err-Stays-clause-memory
returns-in-Err-Stays-clause-memory g c =
    keeps_going _ _ _ _ _ _ c.get_mut.result.now c.add.new.self (each_is _ _ refl)
    (each_is _ _ refl) (search rules) (search rules) c.add.ensures.room

pub returns-in-Err-Ends-clause-memory : goal.returns-in-Err-Ends-clause-memory
returns-in-Err-Ends-clause-memory g c =
    keeps_gone _ _ _ _ _ _ (each_is _ _ refl) (each_is _ _ refl) (search rules)

pub returns-in-Err-add-clause-memory : goal.returns-in-Err-add-clause-memory
returns-in-Err-add-clause-memory g c =
    let buffers = c.make_room.ensures.buffers in
    let take = c.take-bytes.ensures in
    let back = c.give_back.ensures in
    let first = c.starting-buf.ensures.value in
    let more = c.add-in-Ok-Vacant.ensures.room in
    keeps_gone _ _ _ _ _ _
    (given_back _ _ _ _ _ _ _
    (omega (arith, more.bytes, bytes_room first)) buffers.bytes take.bytes_room
    back.bytes_room)
    (given_back _ _ _ _ _ _ _
    (omega (arith, more.sections, sections_room first)) buffers.sections
    take.sections_room back.sections_room)
    (search rules)

pub returns-in-Err-add-clause-succeeds : goal.returns-in-Err-add-clause-succeeds
returns-in-Err-add-clause-succeeds g c finds =
    let buffers = c.make_room.ensures.buffers in
    let take = c.take-bytes.ensures in
    let f = fragment_of c.args.received.now in
    let n = index_map_len c.args.reassemblies.now in
    let m = memory_of c.args.spare.now
    (room_for (names_room c.args.reassemblies.now) c.args.starts.now.room) in
    let none : get g.K.PartialEq.eq c.args.reassemblies.now c.args.name ≡ None = search rules in
    let bytes = taken_next _ _ _ _ _ buffers.bytes take.bytes_room take.no_bytes in
    let sections = taken_next _ _ _ _ _ buffers.sections take.sections_room take.no_sections in
    let can : CanBegin n m f =
    begins (get g.K.PartialEq.eq c.args.reassemblies.now c.args.name) n m f none finds in
    c.in-Err-add.ensures.succeeds
    (subst (λ (b : Contents Unit). HasRoom b f) (sym c.starting-buf.ensures.value)
    (first_has_room c.args.rule f n m c.take-bytes.result.0 c.take-bytes.result.1 can bytes.fits
    sections.fits))

pub returns-in-Ok-2-add-clause-memory : goal.returns-in-Ok-2-add-clause-memory
returns-in-Ok-2-add-clause-memory g c =
    let buffers = c.make_room.ensures.buffers in
    let take = c.take-bytes.ensures in
    let first = c.starting-buf.ensures.value in
    let more = c.add-in-Ok-Vacant.ensures.room in
    keeps_started _ _ _ _ _
    (record { buf = c.add-in-Ok-Vacant.new.self; timestamp = c.args.timestamp }) _ _
    (search rules) (search rules)
    (taken_next _ _ _ _ _ buffers.bytes take.bytes_room take.no_bytes)
    (taken_next _ _ _ _ _ buffers.sections take.sections_room take.no_sections)
    (omega (arith, more.bytes, bytes_room first))
    (omega (arith, more.sections, sections_room first))

pub returns-in-Ok-add-clause-memory : goal.returns-in-Ok-add-clause-memory
returns-in-Ok-add-clause-memory g c =
    let buffers = c.make_room.ensures.buffers in
    let take = c.take-bytes.ensures in
    let ended = c.finish-in-Ok-add.ensures in
    let first = c.starting-buf.ensures.value in
    let more = c.add-in-Ok-Vacant.ensures.room in
    let bytes : TakenNext (capacities c.args.spare.now.bytes.items)
    (capacities c.finish-in-Ok-add.new.spare.bytes.items) (vec_capacity c.take-bytes.result.0) =
    rw ended.bytes_stay (taken_next _ _ _ _ _ buffers.bytes take.bytes_room take.no_bytes) in
    keeps_whole _ _ _ _ _ _ _ _ _ _ c.len-held.result (search rules) (search rules) bytes
    (taken_next _ _ _ _ _ buffers.sections take.sections_room take.no_sections)
    ended.sections_room
    (omega (arith, more.sections, sections_room first)) (search rules)
    (slot_left c.take-bytes.new.self c.finish-in-Ok-add.new.spare c.len-held.result
    ended.bytes_stay (take.slots _ (c.make_room.ensures.slots (search rules))))

pub overflow_sub-held_bytes : goal.overflow_sub-held_bytes
overflow_sub-held_bytes g c =
    let at : get g.K.PartialEq.eq c.args.reassemblies.now c.args.name ≡ Some c.get.result.now = search rules in
    part_fits g.K.PartialEq.eq c.args.name _ _ c.args.reassemblies.now.entries c.requires.tracks
    c.get.result.now _ at c.data_len-before.ensures.len c.data_len-before.ensures.short

pub overflow_sub-held_bytes-in-Ok-2 : goal.overflow_sub-held_bytes-in-Ok-2
overflow_sub-held_bytes-in-Ok-2 g c =
    let at : get g.K.PartialEq.eq c.args.reassemblies.now c.args.name ≡ Some c.get.result.now = search rules in
    part_fits g.K.PartialEq.eq c.args.name _ _ c.args.reassemblies.now.entries c.requires.tracks
    c.get.result.now _ at c.data_len-before.ensures.len c.data_len-before.ensures.short

pub overflow_sub-held_bytes-in-Err-Ends : goal.overflow_sub-held_bytes-in-Err-Ends
overflow_sub-held_bytes-in-Err-Ends g c =
    let at : get g.K.PartialEq.eq c.args.reassemblies.now c.args.name ≡ Some c.get.result.now = search rules in
    part_fits g.K.PartialEq.eq c.args.name _ _ c.args.reassemblies.now.entries c.requires.tracks
    c.get.result.now _ at c.data_len-before.ensures.len c.data_len-before.ensures.short

pub overflow_add-held_bytes : goal.overflow_add-held_bytes
overflow_add-held_bytes g c =
    let fits = held_fits g.K.PartialEq.eq c.args.name _ _ c.args.reassemblies.now.entries
    c.requires.tracks in
    omega (arith, fits, c.data_len.ensures.short)

pub overflow_add-held_bytes-in-Ok-2-add : goal.overflow_add-held_bytes-in-Ok-2-add
overflow_add-held_bytes-in-Ok-2-add g c =
    let fits = held_fits g.K.PartialEq.eq c.args.name _ _ c.args.reassemblies.now.entries
    c.requires.tracks in
    omega (arith, fits, c.data_len-in-Ok-2-add.ensures.short)

pub swap_remove-requires-in-Err-Ends : goal.swap_remove-requires-in-Err-Ends
swap_remove-requires-in-Err-Ends g c =
    let es = c.args.reassemblies.now.entries in
    let at : get g.K.PartialEq.eq c.args.reassemblies.now c.args.name ≡ Some c.get.result.now = search rules in
    let within = slice_get_within es _ _ (found_at (g.K.PartialEq.eq c.args.name) es _ at).at in
    let i : c.index-in-Err-Ends.result
    ≡ insert_index g.K.PartialEq.eq c.args.reassemblies.now c.args.name = search rules in
    omega (arith, i, within, c.requires.tracks.count)

pub returns-in-Ok-clause-tracks : goal.returns-in-Ok-clause-tracks
returns-in-Ok-clause-tracks g c =
    let at : get g.K.PartialEq.eq c.args.reassemblies.now c.args.name ≡ Some c.get.result.now = search rules in
    tracks_ended g.K.PartialEq.eq c.args.name _ _ c.args.reassemblies.now.entries c.requires.tracks
    c.get.result.now _ _ _ at (search rules) c.data_len-before.ensures.len
    c.data_len-before.ensures.short c.swap_remove.ensures.is_order c.swap_remove.ensures.len

pub returns-in-Err-Ends-clause-tracks : goal.returns-in-Err-Ends-clause-tracks
returns-in-Err-Ends-clause-tracks g c =
    let at : get g.K.PartialEq.eq c.args.reassemblies.now c.args.name ≡ Some c.get.result.now = search rules in
    tracks_ended g.K.PartialEq.eq c.args.name _ _ c.args.reassemblies.now.entries c.requires.tracks
    c.get.result.now _ _ _ at (search rules) c.data_len-before.ensures.len
    c.data_len-before.ensures.short c.swap_remove-in-Err-Ends.ensures.is_order
    c.swap_remove-in-Err-Ends.ensures.len

pub returns-in-Ok-2-clause-entries : goal.returns-in-Ok-2-clause-entries
returns-in-Ok-2-clause-entries g c =
    let at : get g.K.PartialEq.eq c.args.reassemblies.now c.args.name ≡ Some c.get.result.now = search rules in
    entries_waiting (Unit {0}) g.K.PartialEq.eq c.args.name _ _ c.get.result.now c.add.new.self _ at refl
    (search (rules, c.in-Ok-Occupied.ensures.update.1 c.add.new.self))

pub returns-in-Ok-2-clause-tracks : goal.returns-in-Ok-2-clause-tracks
returns-in-Ok-2-clause-tracks g c =
    let at : get g.K.PartialEq.eq c.args.reassemblies.now c.args.name ≡ Some c.get.result.now = search rules in
    let is : c.get-in-Ok-2.result.now ≡ c.add.new.self = search rules in
    tracks_replaced g.K.PartialEq.eq c.args.name _ _ c.args.reassemblies.now.entries
    c.requires.tracks c.get.result.now c.add.new.self _ _ _ at
    (search (rules, c.in-Ok-Occupied.ensures.update.1 c.add.new.self)) c.data_len-before.ensures.len
    c.data_len-before.ensures.short
    (c.data_len.ensures.len
    ∙ ap (λ (r : Reassembly g.row.T.Denot). length r.buf.bytes) is)
    c.data_len.ensures.short

pub returns-in-Err-Stays-clause-entries : goal.returns-in-Err-Stays-clause-entries
returns-in-Err-Stays-clause-entries g c =
    let at : get g.K.PartialEq.eq c.args.reassemblies.now c.args.name ≡ Some c.get.result.now = search rules in
    entries_refused (Unit {0}) g.K.PartialEq.eq c.args.name _ _ c.in-Err-Stays.error c.get.result.now
    c.add.new.self _ at (first_of (search rules, grind arith)) refl
    (search (rules, c.in-Ok-Occupied.ensures.update.1 c.add.new.self))

pub returns-in-Err-Stays-clause-tracks : goal.returns-in-Err-Stays-clause-tracks
returns-in-Err-Stays-clause-tracks g c =
    let at : get g.K.PartialEq.eq c.args.reassemblies.now c.args.name ≡ Some c.get.result.now = search rules in
    tracks_same g.K.PartialEq.eq c.args.name _ _ c.args.reassemblies.now.entries c.requires.tracks
    c.get.result.now c.add.new.self _ at
    (search (rules, c.in-Ok-Occupied.ensures.update.1 c.add.new.self))
    (first_of (search rules, grind arith))

pub returns-in-Ok-2-add-clause-entries : goal.returns-in-Ok-2-add-clause-entries
returns-in-Ok-2-add-clause-entries g c =
    let none : get g.K.PartialEq.eq c.args.reassemblies.now c.args.name ≡ None = search rules in
    let v : Reassembly g.row.T.Denot =
    record { buf = c.add-in-Ok-Vacant.new.self; timestamp = c.args.timestamp } in
    entries_started (Unit {0}) g.K.PartialEq.eq c.args.name _ _ v _ none refl
    (search (rules, c.in-Ok-Vacant.ensures.update.1 v))

pub returns-in-Ok-2-add-clause-tracks : goal.returns-in-Ok-2-add-clause-tracks
returns-in-Ok-2-add-clause-tracks g c =
    let none : get g.K.PartialEq.eq c.args.reassemblies.now c.args.name ≡ None = search rules in
    let v : Reassembly g.row.T.Denot =
    record { buf = c.add-in-Ok-Vacant.new.self; timestamp = c.args.timestamp } in
    let same = ap (λ (slots : List ℕ). length slots) c.make_room.ensures.order in
    tracks_started g.K.PartialEq.eq c.args.name _ _ c.args.reassemblies.now.entries
    c.requires.tracks v _ _ _ none (search (rules, c.in-Ok-Vacant.ensures.update.1 v))
    c.data_len-in-Ok-2-add.ensures.len
    c.data_len-in-Ok-2-add.ensures.short c.push_newest.ensures.is_order
    (omega (arith, c.push_newest.ensures.len, same)) c.push_newest.ensures.fits

pub returns-in-Err-add-clause-refused : goal.returns-in-Err-add-clause-refused
returns-in-Err-add-clause-refused g c kept fs shows begins =
    let none : get g.K.PartialEq.eq c.args.reassemblies.now c.args.name ≡ None = search rules in
    first_refused kept c.args.rule _ (fragment_of c.args.received.now) c.in-Err-add.error _ fs
    c.starting-buf.ensures.rule none shows begins
    (c.in-Err-add.ensures.refused [] c.starting-buf.ensures.empty)
