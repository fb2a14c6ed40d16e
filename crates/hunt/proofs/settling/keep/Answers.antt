-- `settling::keep` writes a hit after those in the room.
use Rattle.hits.proofs.Held.{put_adds}
use Rattle.hunt.proofs.settling.keep.Goals as goal

pub returns-in-Hit : goal.returns-in-Hit
returns-in-Hit c = λ hs lent s. rw (c.in-Hit.is, c.put.ensures) (put_adds c.in-Hit.h s)
