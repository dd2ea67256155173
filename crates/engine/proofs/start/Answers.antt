use Rattle.engine.proofs.StageThree.{start_shows}
use Rattle.engine.proofs.start.Goals as goal

pub returns-clause-shows : goal.returns-clause-shows
returns-clause-shows c =
    start_shows _ _ _ _ _ _ _ _ _ _ _ _ _ c.requires c.put_entries.ensures c.put_entries-2.ensures
    c.put_entries-3.ensures c.put_entries-4.ensures c.put_entries-5.ensures
