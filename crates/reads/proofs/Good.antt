-- The root of a good tree.
use Rattle.std.proofs.Common.{◌≡◌, ℕ, suc, refl, ap, subst}
use Rattle.device.specs.Meaning.{Meaning, current_at}
use Rattle.tree.specs.Node.{map_e, Asc}
use Rattle.tree.specs.Tree.{Enough}
use Rattle.tree.proofs.Laid.{same_rule}
use Rattle.tree.proofs.Puts.{span_asc}
use Rattle.table.specs.Rows.{angle_of}
use Rattle.model.specs.TreeBlocks.{tree_at, top_level, pay_at, GoodOn}
use Rattle.reads.specs.Rows.{rows_on}
use Rattle.reads.specs.Sound.{held, rows_in, rows_at, Sound, SoundAt}
use Rattle.reads.proofs.Lists.{asc_below, each_both}
use Rattle.reads.proofs.Children.{inside, stands_block, block, length_held}

pub record Start (m : Meaning) (h x : ℕ) : Type 0 where
  pub sound : SoundAt (current_at m) x
  pub rows : rows_on m (h, x) ≡ map_e angle_of (rows_at (current_at m) x)
  pub ascending : Asc 0 10000 (rows_at (current_at m) x)

pub start : (m : Meaning) (h x : ℕ) → GoodOn m (h, x) → Start m h x
unfolding tree_at
start m h x g =
    let c = current_at m in
    let l = top_level h in
    let st = stands_block c l x g.stored in
    let w = (same_rule ℕ ℕ l (pay_at c (suc l) x)).1 g.fit.laid in
    let asc = span_asc ℕ ℕ l 0 10000 (held c l (inside c x)) w.0 in
    let so : Sound c l (inside c x) = record {
      low = 0;
      high = 10000;
      below = g.stored.1;
      span = w.0;
      enough = subst (Enough l) (length_held c l (inside c x)) w.1;
      valid = each_both _ _ (rows_in c l (inside c x)) (asc_below 0 10000 (rows_in c l (inside c x)) asc) g.fit.angles;
    } in
    record {
      sound = record { block = block c l x; stands = st; sound = so };
      rows = ap (map_e angle_of) (rw st refl);
      ascending = rw st asc;
    }
