-- The front of a buffer of one byte's copies is copies of it.
use Rattle.std.proofs.Common.{refl}
use Rattle.std.proofs.lemmas.List.{take-replicate}
use Rattle.play.proofs.room.Room.lend.Goals as goal

pub returns : goal.returns
returns g c = (
  _,
  record {
    shown = _;
    shows = take-replicate c.args.self.size _ 238 c.args.self.within;
    left = _;
    met = c.call.ensures;
    leaves = refl;
  },
)
