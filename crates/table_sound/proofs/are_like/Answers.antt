-- `table_sound::are_like`: the four types.
use Rattle.table_sound.specs.Seen.{like_leaves}
use Rattle.table_sound.proofs.are_like.Goals as goal

pub returns : goal.returns
unfolding like_leaves
returns c = rw (c.like_leaves.ensures, c.word_at.ensures, c.word_at-2.ensures, c.word_at-3.ensures, c.word_at-4.ensures, like_leaves)
