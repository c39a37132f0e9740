-- What outlasts a cut opens as a cut.
use Rattle.std.proofs.Common.{◌≡◌, length, sym, ap₂, subst}
use Rattle.device.specs.Meaning.{Meaning, Cut, flushed}
use Rattle.memory.specs.Memory.{cleared}
use Rattle.memory.proofs.Facts.{opened_cut}
use Rattle.log_device.specs.Log.{opened_log}
use Rattle.log_device.proofs.Cuts.{outlasts}
use Rattle.check_layer.proofs.Follows.{checked_flushed}
use Rattle.mirror.specs.Mirrored.{mirrored}
use Rattle.piles.specs.Piles.{shows, Cuts, anew, counted}
use Rattle.piles.proofs.Rise.{cuts_rise}
use Rattle.medium.specs.Built.{built}
use Rattle.medium.specs.Sides.{shown}
use Rattle.medium.specs.Outlasts.{sides, Outlasts}
use Rattle.medium.specs.declared.Sides.{Sides}

shows_built : (m l : Meaning) → shows (anew (sides m l)) ≡ built m l
shows_built m l = ap₂ mirrored (checked_flushed (flushed m)) (checked_flushed (flushed l))

pub sides_outlast : (s : Sides) → Outlasts s (shown s)
sides_outlast s p o d mem img r u a e en ew t l t' l' =
    let n = length s.words.marks.items in
    let w = s.words.width in
    let m : Meaning = cleared s.words.persisted.items n w in
    let k : Meaning = opened_log s.image.items s.blocks w in
    let c = cuts_rise.0 p (sides m k) o d u a (subst (λ x. Cuts x (sides m k)) (sym e) (opened_cut s.words.persisted.items n w mem en ew t l, (outlasts s.image.items s.blocks w img r t' l').2)) in
    subst (Cut (counted o d p)) (shows_built m k) c.1
