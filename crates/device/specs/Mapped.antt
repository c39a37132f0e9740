-- What a layer shows of a block, where it shows each content by a function of it.
use Rattle.device.specs.Meaning.{Content, Cell}

abbrev pub mapped_cell : (Content → Content) → Cell → Cell
mapped_cell f c = record { persisted = f c.persisted; current = f c.current; mark = c.mark }
