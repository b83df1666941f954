-- Where a step takes a search.
-- Assumes nothing.
use Rattle.strip.specs.Cursors.{BestKept}
use Rattle.strip.specs.Of.Cursor.{Further}
use Rattle.strip.specs.declared.asking.Search.{Search}

-- further along, with the best place up to there
pub record Searched (old new : Search) : Type 0 where
  pub further : Further old.cursor new.cursor
  pub best : BestKept old.cursor.strip.bytes.now old.cursor.place old.best new.cursor.place new.best
