use Rattle.piles.proofs.Devices.{piles_are_devices}
use Rattle.piles.proofs.piles_are_devices.Goals as goal

pub returns : goal.returns
returns c = piles_are_devices
