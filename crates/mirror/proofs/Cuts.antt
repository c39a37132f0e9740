-- A cut of both sides is a cut of the mirror, at rest and inside a write, a flush or a building.
use Rattle.std.proofs.Common.{◌≡◌, ℕ, zero, suc, ◌+◌, min, ◌<◌, ◌≤◌, ◌⊎◌, List, sym, refl, ap, ◌∙◌, subst, inl, inr, ⊎_elim, arith}
use Rattle.std.proofs.lemmas.Bool.{cases_eq}
use Rattle.std.proofs.lemmas.List.{length-set, length-map}
use Rattle.device.specs.Meaning.{Meaning, Cell, Content, words, damaged, Cut, CutCell, CutTo, Held, Lawful, LawfulCell, written, written_cell, flushed, flushed_cell, blocks_of, cell_at}
use Rattle.device.proofs.Cuts.{any, cut_flushed, cut_again}
use Rattle.device.proofs.Choices.{flush_at, write_at, write_off}
use Rattle.mirror.specs.Mirrored.{Alike, One, mirrored, mirrored_cell, both_at, pick, mirrored_blocks, held_pick, first_lawful, second_lawful}
use Rattle.mirror.specs.Cuts.{CutsKept}
use Rattle.mirror.proofs.Follows.{cell_mirrored, moved}

-- of two sides at mark 1 with the same current words
ones : (p q x y : Content) (ws : List ℕ) → (x ≡ p) ⊎ (x ≡ words ws) → (y ≡ q) ⊎ (y ≡ words ws) → (pick x y ≡ pick p q) ⊎ (pick x y ≡ words ws)
ones p q x y ws h k =
    ⊎_elim
    (λ (e : x ≡ p).
    ⊎_elim
    (λ (f : y ≡ q). inl (ap (λ t. pick t y) e ∙ ap (pick p) f))
    (λ (f : y ≡ words ws). subst (λ t. (t ≡ pick p q) ⊎ (t ≡ words ws)) (sym (ap (λ t. pick t y) e ∙ ap (pick p) f)) (new p))
    k)
    (λ (e : x ≡ words ws). inr (ap (λ t. pick t y) e))
    h
  where
    new : (p : Content) → (pick p (words ws) ≡ pick p q) ⊎ (pick p (words ws) ≡ words ws)
    new (words a) = inl refl
    new (damaged j) = inr refl

-- the two sides' cells of a block, marked alike, and what a cut leaves of them
module _ (w : ℕ) (c d : Cell) (x y : Content) where
  at_rest : (k : ℕ) → (1 ≤ k → One c.current d.current) → CutTo w k c x → CutTo w k d y → CutTo w k (mirrored_cell c d) (pick x y)
  at_rest zero one s t = ap (λ z. pick z y) s ∙ ap (pick c.current) t
  at_rest (suc zero) one s t =
      let o = one (omega arith) in
      let e : c.current ≡ words o.0 = o.1 in
      let p : (x ≡ c.persisted) ⊎ (x ≡ words o.0) = ⊎_elim (λ z. inl z) (λ z. inr (z ∙ e)) s in
      let q : (y ≡ d.persisted) ⊎ (y ≡ words o.0) = ⊎_elim (λ z. inl z) (λ z. inr (z ∙ o.2)) t in
      ⊎_elim (λ z. inl z) (λ z. inr (z ∙ sym (ap (λ v. pick v d.current) e))) (ones c.persisted d.persisted x y o.0 p q)
  at_rest (suc (suc n)) one s t = held_pick w x y s t

  -- with the first side written
  half_written : LawfulCell w d → (ws : List ℕ) (k j : ℕ) → j ≡ min (k + 1) 2 → (k ≡ 0 → d.persisted ≡ d.current)
      → CutTo w j (written_cell ws c) x → CutTo w k d y → CutTo w j (written_cell ws (mirrored_cell c d)) (pick x y)
  half_written l ws zero j e clean =
      subst (λ j. CutTo w j (written_cell ws c) x → CutTo w 0 d y → CutTo w j (written_cell ws (mirrored_cell c d)) (pick x y)) (sym one)
      (λ s t. ⊎_elim (λ p. inl (ap (λ v. pick v y) p ∙ ap (pick c.persisted) (t ∙ sym (clean refl)))) (λ p. inr (ap (λ v. pick v y) p)) s)
    where
      one : j ≡ 1
      one = omega (arith, e)
  half_written l ws (suc k) j e clean =
      subst (λ j. CutTo w j (written_cell ws c) x → CutTo w (suc k) d y → CutTo w j (written_cell ws (mirrored_cell c d)) (pick x y)) (sym two)
      (λ s t. held_pick w x y s (any w (suc k) d y l t))
    where
      two : j ≡ 2
      two = omega (arith, e)

  -- with the first side flushed
  half_flushed : LawfulCell w c → (k : ℕ) → (1 ≤ k → One c.current d.current) → x ≡ c.current → CutTo w k d y → CutTo w k (mirrored_cell c d) (pick x y)
  half_flushed l zero one e t = ap (λ v. pick v y) e ∙ ap (pick c.current) t
  half_flushed l (suc zero) one e t = let o = one (omega arith) in inr (ap (λ v. pick v y) (e ∙ o.1) ∙ sym (ap (λ v. pick v d.current) o.1))
  half_flushed l (suc (suc n)) one e t = held_pick w x y (subst (Held w) (sym e) l.current) t

moved_mark : (w : ℕ) {j k : ℕ} (c : Cell) (x : Content) → j ≡ k → CutTo w j c x → CutTo w k c x
moved_mark w c x e t = subst (λ k. CutTo w k c x) e t

-- two cells that a cut left, as the mirror shows them
both : (w : ℕ) (c d e x y : Cell) → CutCell w c x → CutCell w d y → CutTo w e.mark e (pick x.current y.current) → CutCell w e (mirrored_cell x y)
both w c d e x y k l t = record {
  mark = omega (arith, k.mark, l.mark);
  equal = ap (λ z. pick z y.persisted) k.equal ∙ ap (pick x.current) l.equal;
  from = t;
}

-- a cut of v, block by block
by_blocks : (v p q : Meaning) → p.width ≡ v.width → blocks_of p ≡ blocks_of v → p.left ≤ 4294967295
    → ((b : ℕ) → b < blocks_of v → CutCell v.width (cell_at v b) (both_at p q b)) → Cut v (mirrored p q)
by_blocks v p q e f few h = record {
  width = e;
  blocks = mirrored_blocks p q ∙ f;
  cells = λ b i. subst (CutCell v.width (cell_at v b)) (sym (cell_mirrored p q b (omega (arith, f)))) (h b i);
  left = omega (arith, few);
  left_mark = omega arith;
}

module _ (m n p q : Meaning) (a : Alike m n) (l : Cut n q) where
  second : (b : ℕ) → b < blocks_of m → CutCell m.width (cell_at n b) (cell_at q b)
  second b h = subst (λ w. CutCell w (cell_at n b) (cell_at q b)) (sym a.shape.1) (l.cells b (omega (arith, a.shape.0)))

  -- by the first side's mark
  second_to : (b : ℕ) → b < blocks_of m → CutTo m.width (cell_at m b).mark (cell_at n b) (cell_at q b).current
  second_to b h = moved_mark m.width (cell_at n b) (cell_at q b).current (sym (a.marks b h)) (second b h).from

  -- a block that is as the mirror of m and n has it
  block : (v : Meaning) (b : ℕ) → b < blocks_of m → cell_at v b ≡ cell_at (mirrored m n) b → CutCell m.width (cell_at m b) (cell_at p b)
      → CutCell m.width (cell_at v b) (both_at p q b)
  block v b h e k =
      subst (λ x. CutCell m.width x (both_at p q b)) (sym (e ∙ cell_mirrored m n b h))
      (both m.width (cell_at m b) (cell_at n b) (both_at m n b) (cell_at p b) (cell_at q b) k (second b h)
      (moved_mark m.width (both_at m n b) (pick (cell_at p b).current (cell_at q b).current) (omega (arith, a.marks b h))
      (at_rest m.width (cell_at m b) (cell_at n b) (cell_at p b).current (cell_at q b).current (cell_at m b).mark (a.currents b h) k.from (second_to b h))))

  between : Cut m p → Cut (mirrored m n) (mirrored p q)
  between k = by_blocks (mirrored m n) p q k.width (k.blocks ∙ sym (mirrored_blocks m n)) k.left (λ b i.
      let h : b < blocks_of m = omega (arith, mirrored_blocks m n) in
      block (mirrored m n) b h refl (k.cells b h))

  in_flush : Lawful m → Lawful n → Cut (flushed m) p → Cut (mirrored m n) (mirrored p q)
  in_flush lm ln k =
      let e = length-map m.cells flushed_cell in
      by_blocks (mirrored m n) p q k.width (k.blocks ∙ e ∙ sym (mirrored_blocks m n)) k.left (λ b i.
      let h : b < blocks_of m = omega (arith, mirrored_blocks m n) in
      let u : CutCell m.width (flushed_cell (cell_at m b)) (cell_at p b) = subst (λ x. CutCell m.width x (cell_at p b)) (flush_at m b) (k.cells b (omega (arith, e))) in
      subst (λ x. CutCell m.width x (both_at p q b)) (sym (cell_mirrored m n b h))
      (both m.width (flushed_cell (cell_at m b)) (cell_at n b) (both_at m n b) (cell_at p b) (cell_at q b) u (second b h)
      (moved_mark m.width (both_at m n b) (pick (cell_at p b).current (cell_at q b).current) (omega (arith, a.marks b h))
      (half_flushed m.width (cell_at m b) (cell_at n b) (cell_at p b).current (cell_at q b).current (first_lawful m n lm ln a b h) (cell_at m b).mark (a.currents b h) u.from (second_to b h)))))

  in_write : (b : ℕ) (ws : List ℕ) → Lawful m → Lawful n → b < blocks_of m → Cut (written m b ws) p → Cut (written (mirrored m n) b ws) (mirrored p q)
  in_write b ws lm ln h k =
      let v = written (mirrored m n) b ws in
      let e : blocks_of (written m b ws) ≡ blocks_of m = length-set m.cells b (written_cell ws (cell_at m b)) in
      let f : blocks_of v ≡ blocks_of m = length-set (mirrored m n).cells b (written_cell ws (cell_at (mirrored m n) b)) ∙ mirrored_blocks m n in
      let u : CutCell m.width (written_cell ws (cell_at m b)) (cell_at p b) = subst (λ x. CutCell m.width x (cell_at p b)) (write_at m b ws h) (k.cells b (omega (arith, e))) in
      let l' = second_lawful m n lm ln a b h in
      let here : CutCell m.width (cell_at v b) (both_at p q b) =
      subst (λ x. CutCell m.width x (both_at p q b))
      (sym (write_at (mirrored m n) b ws (omega (arith, mirrored_blocks m n)) ∙ ap (written_cell ws) (cell_mirrored m n b h)))
      (both m.width (written_cell ws (cell_at m b)) (cell_at n b) (written_cell ws (both_at m n b)) (cell_at p b) (cell_at q b) u (second b h)
      (moved_mark m.width (written_cell ws (both_at m n b)) (pick (cell_at p b).current (cell_at q b).current) (omega (arith, a.marks b h))
      (half_written m.width (cell_at m b) (cell_at n b) (cell_at p b).current (cell_at q b).current l' ws (cell_at m b).mark (min ((cell_at m b).mark + 1) 2) refl
      (λ z. l'.clean (sym (a.marks b h) ∙ z)) u.from (second_to b h)))) in
      by_blocks v p q k.width (k.blocks ∙ e ∙ sym f) k.left (λ i j.
      let i< : i < blocks_of m = omega (arith, f) in
      ⊎_elim
      (λ (z : i ≡ b). subst (λ i. CutCell m.width (cell_at v i) (both_at p q i)) (sym z) here)
      (λ (ne : i ≡ b → ⊥).
      block v i i< (write_off (mirrored m n) b i ws ne)
      (subst (λ x. CutCell m.width x (cell_at p i)) (write_off m b i ws ne) (k.cells i (omega (arith, e)))))
      (cases_eq i b))

-- the mirror that is built anew: it flushes what a cut has left, which changes nothing
pub built_cut : (p q : Meaning) → CutsKept p q (mirrored (flushed p) (flushed q))
built_cut p q = record {
  between = λ m n a k l. flat m n k l (between m n p q a l k);
  in_write = λ m n b ws a lm ln h k l. flat (written m b ws) n k l (in_write m n p q a l b ws lm ln h k);
  in_flush = λ m n a lm ln k l. flat (flushed m) n k l (in_flush m n p q a l lm ln k);
  in_build = λ m n p' q' k l k' l'. (cut_again m p' p k (subst (λ x. Cut x p) (cut_flushed m p' k) k'), cut_again n q' q l l');
}
  where
    flat : {v : Meaning} (m n : Meaning) → Cut m p → Cut n q → Cut v (mirrored p q) → Cut v (mirrored (flushed p) (flushed q))
    flat {v} m n k l = moved (λ x y. Cut v (mirrored x y)) (cut_flushed m p k) (cut_flushed n q l)
