use Rattle.mount.proofs.Exact.{mount_exact}
use Rattle.mount.proofs.mount_is_exact.Goals as goal

pub returns : goal.returns
returns c = mount_exact
