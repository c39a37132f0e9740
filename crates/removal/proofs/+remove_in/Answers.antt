use Rattle.std.proofs.Common.{◌≡◌, ℕ, suc, ◌+◌, ◌*◌, ◌<◌, drop, sym, ap, ◌∙◌, subst, arith, drop-drop}
use Rattle.page.specs.View.{view}
use Rattle.page.proofs.Pages.{entries_length}
use Rattle.counts.specs.Moves.{Shaped}
use Rattle.removal.specs.Able.{AbleIndex, Room, Filling, Made}
use Rattle.removal.proofs.Fillings.{two}
use Rattle.edit.specs.Kids.{Beside}
use Rattle.edit.proofs.Laying.{parts_laid}
use Rattle.removal.proofs.Levels.{Linkable, leaf_made, index_able, index_made, level_is, part_ready, part_level, part_room, made_level, fits, linkable, within, up}
use Rattle.removal.proofs.+remove_in.Given.{Over}
use Rattle.removal.proofs.+remove_in.Goals.{After-fill-filled, After-remove_in-made}
use Rattle.removal.proofs.+remove_in.Goals as goal

pub returns-then-page-eq0-clause-made : goal.returns-then-page-eq0-clause-made
returns-then-page-eq0-clause-made g t c = leaf_made _ _ _ _ _ (view c.without_row.result) c.if-page-eq0.true c.without_row.ensures.level c.without_row.ensures.these

pub covering-i-requires : goal.covering-i-requires
covering-i-requires g t c = omega (arith, two _ _ _ _ (index_able _ _ c.args.grant.now _ _ c.if-page-eq0.false c.requires.able), entries_length c.args.page.now)

pub fill-filled-requires : goal.fill-filled-requires
fill-filled-requires g t c =
    let el = entries_length c.args.page.now in
    record {
      able = index_able _ _ c.args.grant.now _ _ c.if-page-eq0.false c.requires.able;
      at = record { within = omega (arith, el, c.covering-i.ensures.within); low = c.covering-i.ensures.past; high = λ h. c.covering-i.ensures.high (omega (arith, el)) };
    }

module _ (g : Over) (t : ℕ) (c : After-fill-filled g t) where
  above : c.args.page.now.level ≡ 0 → ⊥
  above = c.if-page-eq0.false

  A : AbleIndex c.args.store.now (view c.args.page.now) c.args.speed
  A = index_able _ _ c.args.grant.now _ _ above c.requires.able

  F : Filling c.args.store.now c.fill-filled.new.store c.args.speed A.l A.es c.fill-filled.result
  F = c.fill-filled.ensures.filling A.l A.es A.ready

  level : c.args.page.now.level ≡ suc A.l
  level = level_is _ _ c.args.grant.now _ _ _ _ A.ready

  room : Room c.args.store.now c.args.grant.now (suc A.l)
  room = subst (Room c.args.store.now c.args.grant.now) level c.requires.room

  part : c.fill-filled.result.part.level ≡ A.l
  part = part_level _ _ _ _ _ _ A.ready _ _ F

pub remove_in-made-requires : goal.remove_in-made-requires
remove_in-made-requires g t c κs inside =
    let d = (goal.at.remove_in-made-requires g t c).After-fill-filled in
    let a = A g t d in
    let f = F g t d in (
      omega (arith, c.decreases, level g t d, part g t d),
      (
        inside,
        (
          record { l = a.l; es = f.split.work; ready = part_ready _ _ _ _ _ _ a.ready _ _ f },
          (part_room _ _ _ _ _ _ a.ready _ _ f c.args.grant.now (room g t d), omega (arith, c.requires.enough, level g t d, part g t d)),
        ),
      ),
    )

module _ (g : Over) (t : ℕ) (c : After-remove_in-made g t) (a : AbleIndex c.args.store.now (view c.args.page.now) c.args.speed)
    (f : Filling c.args.store.now c.fill-filled.new.store c.args.speed a.l a.es c.fill-filled.result)
    (room : Room c.args.store.now c.args.grant.now (suc a.l)) (level : c.args.page.now.level ≡ suc a.l) (shape : Shaped c.args.store.now) where
  M : Made c.fill-filled.new.store c.remove_in-made.new.store c.args.grant.now c.args.speed a.l f.split.work (view c.remove_in-made.result)
  M = c.remove_in-made.ensures.made a.l f.split.work (part_ready _ _ _ _ _ _ a.ready _ _ f)

  flat : c.remove_in-made.result.level ≡ a.l
  flat = made_level _ _ _ _ _ _ a.ready _ _ f _ _ _ M

  link : Linkable c.remove_in-made.new.store c.remove_in-made.new.grant
  link = linkable _ _ _ _ _ _ a.ready _ _ f _ _ _ M _ c.remove_in-made.ensures.grant (omega (arith, c.requires.enough, level)) room shape

  kept : Beside c.remove_in-made.result.level c.fill-filled.result.rest
  kept = subst (λ (k : ℕ). Beside k c.fill-filled.result.rest) (sym flat) f.beside

  low : c.remove_in-made.result.level < 5
  low = omega (arith, flat, level, c.args.page.now.low)

pub link_parts-requires : goal.link_parts-requires
link_parts-requires g t c =
    let d = (goal.at.link_parts-requires g t c).After-fill-filled in
    let m = (goal.at.link_parts-requires g t c).After-remove_in-made in
    let L = link g t m (A g t d) (F g t d) (room g t d) (level g t d) c.fill-filled.ensures.shape in
    record {
      places = L.places;
      two = L.two;
      left = L.left;
      level = low g t m (A g t d) (F g t d) (room g t d) (level g t d) c.fill-filled.ensures.shape;
      beside = kept g t m (A g t d) (F g t d) (room g t d) (level g t d) c.fill-filled.ensures.shape;
      fits = fits _ _ _ _ _ _ (A g t d).ready _ _ (F g t d);
      within = omega (arith, within _ _ _ _ _ _ (A g t d).ready _ _ (F g t d) _ _ _ (M g t m (A g t d) (F g t d) (room g t d) (level g t d) c.fill-filled.ensures.shape), entries_length c.args.page.now);
    }

pub returns-clause-made : goal.returns-clause-made
returns-clause-made g t c =
    let d = (goal.at.returns-clause-made g t c).After-fill-filled in
    let m = (goal.at.returns-clause-made g t c).After-remove_in-made in
    let L = link g t m (A g t d) (F g t d) (room g t d) (level g t d) c.fill-filled.ensures.shape in
    index_made _ _ c.args.grant.now _ _ c.if-page-eq0.false c.link_parts.new.store (view c.link_parts.result) (λ l es p.
    let f = c.fill-filled.ensures.filling l es p in
    up _ _ _ _ _ _ p _ _ f _ _ _ (c.remove_in-made.ensures.made l f.split.work (part_ready _ _ _ _ _ _ p _ _ f)) _ c.remove_in-made.ensures.grant c.link_parts.new.store (view c.link_parts.result)
    c.link_parts.ensures.level c.link_parts.ensures.these c.link_parts.ensures.state
    (parts_laid c.remove_in-made.result c.fill-filled.result.rest _ _ _ _ L.wide (low g t m (A g t d) (F g t d) (room g t d) (level g t d) c.fill-filled.ensures.shape) (kept g t m (A g t d) (F g t d) (room g t d) (level g t d) c.fill-filled.ensures.shape)))

pub returns-clause-grant : goal.returns-clause-grant
returns-clause-grant g t c =
    let d = (goal.at.returns-clause-grant g t c).After-fill-filled in
    let k : 2 * c.fill-filled.result.part.level + 2 ≡ 2 * c.args.page.now.level = omega (arith, level g t d, part g t d) in
    c.link_parts.ensures.grant ∙ ap (drop 2) c.remove_in-made.ensures.grant ∙ drop-drop 2 (2 * c.fill-filled.result.part.level) c.args.grant.now ∙ ap (λ (n : ℕ). drop n c.args.grant.now) k
