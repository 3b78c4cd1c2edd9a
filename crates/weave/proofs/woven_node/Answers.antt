-- The halves have pages, and sums of these have room.
use Rattle.weave.proofs.Room.{room}
use Rattle.weave.proofs.woven_node.Goals as goal

pub half_number-requires : goal.half_number-requires
half_number-requires c = (room c.args.x.now c.in-Some.h c.in-Some.is).0

pub half_number-requires-in-Some : goal.half_number-requires-in-Some
half_number-requires-in-Some c = (room c.args.x.now c.in-Some.h c.in-Some.is).1
