-- What edits of a page do to its entries.
use Rattle.std.proofs.Common.{◌≡◌, ℕ, zero, suc, ◌+◌, ◌<◌, ◌≤◌, List, [], ◌∷◌, ◌++◌, map, length, get_or, take, drop, Some, None, Option, MatchOption, unwrap_or, sym, refl, ap, ◌∙◌, subst, add-one, arith}
use Rattle.std.specs.List.{AllWithin, HoldsAt}
use Rattle.std.proofs.lemmas.List.{get_or-map, length-map}
use Rattle.std.proofs.lemmas.Bool.{lt-ltb, le-ltb, eq-eqb, ne_eqb}
use Rattle.tree.specs.Node.{ins, del}
use Rattle.page.specs.View.{pair}
use Rattle.page.specs.declared.page.Entry.{Entry}

-- The first entry whose speed passes a test, or the end where none does.
pub record First (No Yes : ℕ → Type 0) (es : List (ℕ × ℕ)) (i : ℕ) : Type 0 where
  pub within : i ≤ length es
  pub before : (k : ℕ) → k < i → No (get_or es k (0, 0)).0
  pub here : i < length es → Yes (get_or es i (0, 0)).0

blank : Entry
blank = record { speed = 0; value = 0; small = (omega arith, omega arith) }

speed_at : (xs : List Entry) (k : ℕ) → k < length xs → (get_or xs k blank).speed ≡ (get_or (map pair xs) k (0, 0)).0
speed_at xs k h = sym (ap (λ (q : ℕ × ℕ). q.0) (get_or-map pair xs k blank (0, 0) h))

-- what `position` answers, the length for none
pub first_found : (No Yes : ℕ → Type 0) (xs : List Entry) (r : Option ℕ)
    → MatchOption r (AllWithin (λ e. No e.speed) xs 0 (length xs)) (λ i. (i < length xs) × HoldsAt (λ e. Yes e.speed) xs i × AllWithin (λ e. No e.speed) xs 0 i)
    → First No Yes (map pair xs) (unwrap_or r (length xs))
first_found No Yes xs None h = record {
  within = omega (arith, length-map xs pair);
  before = λ k l. subst No (speed_at xs k l) (h k blank (omega arith) l);
  here = λ l. absurd (omega (arith, length-map xs pair));
}
first_found No Yes xs (Some i) h = record {
  within = omega (arith, length-map xs pair, h.0);
  before = λ k l. subst No (speed_at xs k (omega (arith, h.0))) (h.2 k blank (omega arith) l);
  here = λ l. subst Yes (speed_at xs i h.0) (h.1 blank);
}

-- The entry that covers a speed is the one before the first later one that lies above it.
pub covers_past : (es : List (ℕ × ℕ)) (s i : ℕ) → First (λ k. k ≤ s) (λ k. s < k) (drop 1 es) i → (k : ℕ) → k < i → (get_or es (suc k) (0, 0)).0 ≤ s
covers_past [] s i f k h = omega arith
covers_past (e ∷ es) s i f k h = f.before k h

pub covers_low : (es : List (ℕ × ℕ)) (s i : ℕ) → First (λ k. k ≤ s) (λ k. s < k) (drop 1 es) i → (get_or es 0 (0, 0)).0 ≤ s → (get_or es i (0, 0)).0 ≤ s
covers_low es s zero f h = h
covers_low es s (suc i) f h = covers_past es s (suc i) f i (omega arith)

-- A row set: in place of the one of its speed, or before the first that lies above.
module _ (s a : ℕ) where
  pub ins_hit : (es : List (ℕ × ℕ)) (i : ℕ) → i < length es → ((k : ℕ) → k < i → (get_or es k (0, 0)).0 < s) → (get_or es i (0, 0)).0 ≡ s → ins s a es ≡ take i es ++ (s, a) ∷ drop (suc i) es
  ins_hit [] i h b e = absurd (omega arith)
  ins_hit (x ∷ r) zero h b e = rw (le-ltb s x.0 (omega arith), le-ltb x.0 s (omega arith))
  ins_hit (x ∷ r) (suc i) h b e =
      let l = b 0 (omega arith) in
      rw (le-ltb s x.0 (omega arith), lt-ltb x.0 s l) (ap (λ (z : List (ℕ × ℕ)). x ∷ z) (ins_hit r i (omega arith) (λ k q. b (suc k) (omega arith)) e))

  pub ins_miss : (es : List (ℕ × ℕ)) (i : ℕ) → i ≤ length es → ((k : ℕ) → k < i → (get_or es k (0, 0)).0 < s) → (i < length es → s < (get_or es i (0, 0)).0) → ins s a es ≡ take i es ++ (s, a) ∷ drop i es
  ins_miss [] zero h b e = refl
  ins_miss [] (suc i) h b e = absurd (omega arith)
  ins_miss (x ∷ r) zero h b e = rw (lt-ltb s x.0 (e (omega arith)))
  ins_miss (x ∷ r) (suc i) h b e =
      let l = b 0 (omega arith) in
      rw (le-ltb s x.0 (omega arith), lt-ltb x.0 s l) (ap (λ (z : List (ℕ × ℕ)). x ∷ z) (ins_miss r i (omega arith) (λ k q. b (suc k) (omega arith)) (λ q. e (omega arith))))

-- A row cleared: the first of its speed is taken out, or none.
pub del_hit : (s : ℕ) (es : List (ℕ × ℕ)) (i : ℕ) → i < length es → ((k : ℕ) → k < i → s ≡ (get_or es k (0, 0)).0 → ⊥) → s ≡ (get_or es i (0, 0)).0 → del s es ≡ take i es ++ drop (suc i) es
del_hit s [] i h b e = absurd (omega arith)
del_hit s (x ∷ r) zero h b e = rw (eq-eqb s x.0 e)
del_hit s (x ∷ r) (suc i) h b e =
    rw (ne_eqb s x.0 (b 0 (omega arith))) (ap (λ (z : List (ℕ × ℕ)). x ∷ z) (del_hit s r i (omega arith) (λ k q. b (suc k) (omega arith)) e))

pub del_miss : (s : ℕ) (es : List (ℕ × ℕ)) → ((k : ℕ) → k < length es → s ≡ (get_or es k (0, 0)).0 → ⊥) → del s es ≡ es
del_miss s [] b = refl
del_miss s (x ∷ r) b = rw (ne_eqb s x.0 (b 0 (omega arith))) (ap (λ (z : List (ℕ × ℕ)). x ∷ z) (del_miss s r (λ k q. b (suc k) (omega arith))))

-- The same, as what `position` finds.
module _ (s : ℕ) (es : List (ℕ × ℕ)) (i : ℕ) where
  pub ins_here : (a : ℕ) → First (λ k. k < s) (λ k. s ≤ k) es i → i < length es → (get_or es i (0, 0)).0 ≡ s → ins s a es ≡ take i es ++ (s, a) ∷ drop (i + 1) es
  ins_here a f h e = ins_hit s a es i h f.before e ∙ ap (λ (n : ℕ). take i es ++ (s, a) ∷ drop n es) (sym (add-one i))

  pub ins_before : (a : ℕ) → First (λ k. k < s) (λ k. s ≤ k) es i → (i < length es → (get_or es i (0, 0)).0 ≡ s → ⊥) → ins s a es ≡ take i es ++ (s, a) ∷ drop i es
  ins_before a f n = ins_miss s a es i f.within f.before (λ h. omega (arith, f.here h, n h))

  pub del_here : First (λ k. s ≡ k → ⊥) (λ k. s ≡ k) es i → i < length es → del s es ≡ take i es ++ drop (i + 1) es
  del_here f h = del_hit s es i h f.before (f.here h) ∙ ap (λ (n : ℕ). take i es ++ drop n es) (sym (add-one i))

  pub del_none : First (λ k. s ≡ k → ⊥) (λ k. s ≡ k) es i → length es ≤ i → del s es ≡ es
  del_none f h = del_miss s es (λ k l. f.before k (omega arith))
