use Rattle.std.proofs.Common.{◌≡◌, List, ℕ, Err, length, sym, ap, ap₂, ◌∙◌, subst, subst₂, inr}
use Rattle.std.proofs.lemmas.Result.{err_from_is_err_and}
use Rattle.device.specs.Meaning.{Meaning}
use Rattle.memory.specs.Memory.{memory, parts_of}
use Rattle.log_device.specs.Log.{opened_log, log_of, Shaped, Formed}
use Rattle.medium.specs.Built.{Buildable, built}
use Rattle.medium.specs.Held.{opened}
use Rattle.medium.specs.Sides.{LogShaped, LogFormed, Refused, log_shown, shown}
use Rattle.medium.specs.declared.Fault.{Fault}
use Rattle.medium.proofs.Moved.{moved, failed, shown_so}
use Rattle.medium.specs.Outlasts.{Outlasts}
use Rattle.medium.proofs.Outlasts.{sides_outlast}
use Rattle.medium.proofs.Sides.open.Goals as goal

pub returns-in_err-memory-clause-opened : goal.returns-in_err-memory-clause-opened
returns-in_err-memory-clause-opened c =
    let s = c.args.self.now in
    let image : c.deref_mut.result.now ≡ s.image.items = c.deref_mut.ensures.value in
    let shaped : LogShaped s = subst (λ (img : List ℕ). Shaped (length img) s.blocks s.words.width) image c.in_ok-log.ensures.opened.0 in
    let formed : LogFormed s = subst (λ (img : List ℕ). Formed img s.blocks s.words.width) image c.in_ok-log.ensures.opened.1 in
    let h = c.in_err-memory.ensures in
    let y = err_from_is_err_and c.from_residual-in_err-memory.result c.from_residual-in_err-memory.ensures.1 in
    failed _ (λ fault. Refused fault s) c.from_residual-in_err-memory.result c.in_err-memory.field-0.0 (y.1 ∙ ap Err y.2)
    (subst (λ fault. Refused fault s) (sym h.0) (inr (shaped, formed, λ k b. h.1 k)))

pub returns-clause-opened : goal.returns-clause-opened
returns-clause-opened c =
    let s = c.args.self.now in
    let log = c.in_ok-log.log in
    let slices = c.in_ok-memory.memory.slices in
    let image : c.deref_mut.result.now ≡ s.image.items = c.deref_mut.ensures.value in
    let shaped : LogShaped s = subst (λ (img : List ℕ). Shaped (length img) s.blocks s.words.width) image c.in_ok-log.ensures.opened.0 in
    let formed : LogFormed s = subst (λ (img : List ℕ). Formed img s.blocks s.words.width) image c.in_ok-log.ensures.opened.1 in
    let m : Meaning = memory (parts_of slices c.in_ok-memory.memory.width) in
    let n : Meaning = log_of log.image.now log.layout.blocks log.layout.width log.count in
    let p : m ≡ opened s.words = c.in_ok-memory.ensures in
    let q : n ≡ log_shown s = c.in_ok-log.ensures.opened.2 ∙ ap (λ (img : List ℕ). opened_log img s.blocks s.words.width) image in
    moved _ (λ fault. (fault ≡ Fault.Shape) × (Buildable m n → ⊥)) (λ fault. Refused fault s) (built m n) (shown s) (ap₂ built p q)
    (λ e h. subst (λ fault. Refused fault s) (sym h.0) (inr (shaped, formed, λ _ b. h.1 (subst₂ Buildable (sym p) (sym q) b))))
    c.checked_mirror.result c.checked_mirror.ensures

pub returns-clause-cut : goal.returns-clause-cut
returns-clause-cut c =
    let s = c.args.self.now in
    let log = c.in_ok-log.log in
    let image : c.deref_mut.result.now ≡ s.image.items = c.deref_mut.ensures.value in
    let p : memory (parts_of c.in_ok-memory.memory.slices c.in_ok-memory.memory.width) ≡ opened s.words = c.in_ok-memory.ensures in
    let q : log_of log.image.now log.layout.blocks log.layout.width log.count ≡ log_shown s
    = c.in_ok-log.ensures.opened.2 ∙ ap (λ (img : List ℕ). opened_log img s.blocks s.words.width) image in
    shown_so _ (Outlasts s) _ _ (subst (Outlasts s) (sym (ap₂ built p q)) (sides_outlast s)) c.checked_mirror.result c.checked_mirror.ensures
