use Rattle.page.proofs.Exact.{decodes_exactly}
use Rattle.page.proofs.pages_are_exact.Goals as goal

pub returns : goal.returns
returns c = decodes_exactly
