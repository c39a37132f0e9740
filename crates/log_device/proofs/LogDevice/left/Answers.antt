use Rattle.std.proofs.Common.{◌≡◌, ◌-◌, length, sym, ap, ◌∙◌}
use Rattle.std.proofs.lemmas.List.FromFn.{length-map-range_with_len}
use Rattle.log_device.specs.Log.{capacity, records, record_at}
use Rattle.log_device.proofs.LogDevice.left.Goals as goal

pub returns : goal.returns
returns c =
    let s = c.args.self.now in
    let n : length (records s.layout.width s.image.now s.count) ≡ s.count = length-map-range_with_len (record_at s.layout.width s.image.now) 0 s.count in
    let e : c.capacity.result - s.count ≡ capacity (length s.image.now) s.layout.width - length (records s.layout.width s.image.now s.count) =
    ap (λ x. x - s.count) c.capacity.ensures ∙ ap (λ x. capacity (length s.image.now) s.layout.width - x) (sym n) in
    ap (λ x. (x, c.own.result)) e ∙ ap (λ x. (capacity (length s.image.now) s.layout.width - length (records s.layout.width s.image.now s.count), x)) c.own.ensures
