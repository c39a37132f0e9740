-- The entries that a page in memory holds.
use Rattle.std.specs.Prelude.{List, take}
use Rattle.page.specs.declared.entries.Entries.{Entries}
use Rattle.page.specs.declared.page.Entry.{Entry}

-- the entries in use: the places behind them say nothing
abbrev pub in_use : Entries → List Entry
in_use e = take e.len e.cells
