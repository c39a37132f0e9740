-- Lemmas on the entries of one block.
use Rattle.std.proofs.Common.{◌≡◌, ℕ, suc, ◌+◌, ◌*◌, ◌<◌, ◌≤◌, Bool, true, false, cond, eqb, ltb, List, [], ◌∷◌, ◌++◌, length, sym, refl, ap, ◌∙◌, subst, append_assoc, append-nil, le_trans, not-suc-le-zero, suc-mul, zero-mul, arith, length-append}
use Rattle.std.proofs.lemmas.Bool.{cond_both, lt-ltb, le-ltb, ne_eqb, ltb-true, ltb-false, true≢false}
use Rattle.tree.specs.Node.{ins, del, ahead, first, at, Seg, Asc, flat, is_nil, beside}

module _ {X : Type 0} (G : ℕ → ℕ → Type 0) (W : ℕ → ℕ → X → Type 0) where
  pub seg_join : ((a b c : ℕ) → G a b → G b c → G a c) → (lo m hi : ℕ) (xs ys : List (ℕ × X)) → Seg G W lo m xs → Seg G W m hi ys → Seg G W lo hi (xs ++ ys)
  seg_join tr lo m hi [] [] p q = tr lo m hi p q
  seg_join tr lo m hi [] (e ∷ r) p q = (tr lo m e.0 p q.0, q.1)
  seg_join tr lo m hi (e ∷ r) ys p q = (p.0, (p.1.0, p.1.1, seg_join tr p.1.0 m hi r ys p.1.2 q))

  pub seg_cut : ((a : ℕ) → G a a) → (lo hi : ℕ) (xs ys : List (ℕ × X)) → 0 < length ys → Seg G W lo hi (xs ++ ys) → Seg G W lo (first ys) xs × Seg G W (first ys) hi ys
  seg_cut rf lo hi [] [] n p = absurd (not-suc-le-zero n)
  seg_cut rf lo hi [] (e ∷ r) n p = (p.0, (rf e.0, p.1))
  seg_cut rf lo hi (e ∷ r) ys n p =
      let q = seg_cut rf p.1.0 hi r ys n p.1.2 in
      ((p.0, (p.1.0, p.1.1, q.0)), q.1)

  pub seg_weak : (W' : ℕ → ℕ → X → Type 0) → ((k m : ℕ) (x : X) → W k m x → W' k m x) → (lo hi : ℕ) (es : List (ℕ × X)) → Seg G W lo hi es → Seg G W' lo hi es
  seg_weak W' w lo hi [] p = p
  seg_weak W' w lo hi (e ∷ r) p = (p.0, (p.1.0, w _ _ _ p.1.1, seg_weak W' w p.1.0 hi r p.1.2))

-- where s lies before the next key, it lies below the bound; else the bound is at most s
pub ahead_below : {X : Type 0} (W : ℕ → ℕ → X → Type 0) (s m hi : ℕ) (r : List (ℕ × X)) → Seg ◌≡◌ W m hi r → s < hi → ahead s r ≡ true → s < m
ahead_below W s m hi [] p h e = omega (arith, p)
ahead_below W s m hi (x ∷ r) p h e = omega (arith, p.0, ltb-true s x.0 e)

pub ahead_above : {X : Type 0} (W : ℕ → ℕ → X → Type 0) (s m hi : ℕ) (r : List (ℕ × X)) → Seg ◌≡◌ W m hi r → ahead s r ≡ false → m ≤ s
ahead_above W s m hi [] p e = absurd (true≢false e)
ahead_above W s m hi (x ∷ r) p e = omega (arith, p.0, ltb-false s x.0 e)

pub eq_trans : (a b c : ℕ) → a ≡ b → b ≡ c → a ≡ c
eq_trans a b c p q = p ∙ q

module _ {X : Type 0} (W W' : ℕ → ℕ → X → Type 0) (s : ℕ) (f : ℕ → X → List (ℕ × X)) (w : (k m : ℕ) (x : X) → W k m x → W' k m x) (fw : (k m : ℕ) (x : X) → W k m x → k ≤ s → s < m → Seg ◌≡◌ W' k m (f k x)) where
  pub at_seg : (lo hi : ℕ) (es : List (ℕ × X)) → Seg ◌≡◌ W lo hi es → lo ≤ s → s < hi → Seg ◌≡◌ W' lo hi (at s f es)
  at_seg lo hi [] p l h = p
  at_seg lo hi (e ∷ r) p l h =
      let k : e.0 ≤ s = omega (arith, p.0) in
      cond_both (ahead s r) (f e.0 e.1 ++ r) (e ∷ at s f r) (λ z. Seg ◌≡◌ W' lo hi z)
      (λ t. subst (λ (b : ℕ). Seg ◌≡◌ W' b hi (f e.0 e.1 ++ r)) (sym p.0)
      (seg_join ◌≡◌ W' eq_trans e.0 p.1.0 hi (f e.0 e.1) r
      (fw e.0 p.1.0 e.1 p.1.1 k (ahead_below W s p.1.0 hi r p.1.2 h t)) (seg_weak ◌≡◌ W W' w p.1.0 hi r p.1.2)))
      (λ t. (p.0, (p.1.0, w _ _ _ p.1.1, at_seg p.1.0 hi r p.1.2 (ahead_above W s p.1.0 hi r p.1.2 t) h)))

-- how many entries
module _ {X : Type 0} (s : ℕ) (f : ℕ → X → List (ℕ × X)) (fl : (k : ℕ) (x : X) → (1 ≤ length (f k x)) × (length (f k x) ≤ 2)) where
  pub at_length : (es : List (ℕ × X)) → (length es ≤ length (at s f es)) × (length (at s f es) ≤ suc (length es))
  at_length [] = omega arith
  at_length (e ∷ r) =
      cond_both (ahead s r) (f e.0 e.1 ++ r) (e ∷ at s f r) (λ z. (suc (length r) ≤ length z) × (length z ≤ suc (suc (length r))))
      (λ t. omega (arith, length-append (f e.0 e.1) r, fl e.0 e.1)) (λ t. omega (arith, at_length r))

pub at_same : {X : Type 0} (s : ℕ) (f : ℕ → X → List (ℕ × X)) → ((k : ℕ) (x : X) → length (f k x) ≡ 1) → (es : List (ℕ × X)) → length (at s f es) ≡ length es
at_same s f fl [] = refl
at_same s f fl (e ∷ r) =
    cond_both (ahead s r) (f e.0 e.1 ++ r) (e ∷ at s f r) (λ z. length z ≡ suc (length r))
    (λ t. omega (arith, length-append (f e.0 e.1) r, fl e.0 e.1)) (λ t. omega (arith, at_same s f fl r))

pub ins_length : {X : Type 0} (s : ℕ) (a : X) (es : List (ℕ × X)) → (length es ≤ length (ins s a es)) × (length (ins s a es) ≤ suc (length es))
ins_length s a [] = omega arith
ins_length {X} s a (e ∷ r) =
    let I = ins_length s a r in
    let Q : List (ℕ × X) → Type 0 = λ z. (suc (length r) ≤ length z) × (length z ≤ suc (suc (length r))) in
    cond_both (ltb s e.0) _ _ Q (λ t. omega arith)
    (λ t. cond_both (ltb e.0 s) (e ∷ ins s a r) ((s, a) ∷ r) Q (λ u. omega (arith, I)) (λ u. omega arith))

-- rows
module _ {X : Type 0} (s : ℕ) (a : X) where
  pub ins_asc : (lo hi : ℕ) (es : List (ℕ × X)) → Asc lo hi es → lo ≤ s → s < hi → Asc lo hi (ins s a es)
  ins_asc lo hi [] p l h = (l, (suc s, refl, h))
  ins_asc lo hi (e ∷ r) p l h =
      cond_both (ltb s e.0) _ _ (λ z. Asc lo hi z)
      (λ t. (l, (suc s, refl, (ltb-true s e.0 t, p.1))))
      (λ t. cond_both (ltb e.0 s) _ _ (λ z. Asc lo hi z)
      (λ u. (p.0, (p.1.0, p.1.1, ins_asc p.1.0 hi r p.1.2 (omega (arith, p.1.1, ltb-true e.0 s u)) h)))
      (λ u. let q : e.0 ≡ s = omega (arith, ltb-false e.0 s u, ltb-false s e.0 t) in
      (l, (suc s, refl, subst (λ (b : ℕ). Asc b hi r) (p.1.1 ∙ ap suc q) p.1.2))))

-- the lower bound is not above the upper
pub seg_le : {X : Type 0} (G : ℕ → ℕ → Type 0) (W : ℕ → ℕ → X → Type 0) → ((a b : ℕ) → G a b → a ≤ b) → ((k m : ℕ) (x : X) → W k m x → k ≤ m) → (lo hi : ℕ) (es : List (ℕ × X)) → Seg G W lo hi es → lo ≤ hi
seg_le G W g w lo hi [] p = g lo hi p
seg_le G W g w lo hi (e ∷ r) p = omega (arith, g _ _ p.0, w _ _ _ p.1.1, seg_le G W g w p.1.0 hi r p.1.2)

pub asc_le : {X : Type 0} (lo hi : ℕ) (es : List (ℕ × X)) → Asc lo hi es → lo ≤ hi
asc_le lo hi es p = seg_le ◌≤◌ (λ k m x. m ≡ suc k) (λ a b h. h) (λ k m x h. omega arith) lo hi es p

pub cond_cong : {A B : Type 0} (f : A → B) (b : Bool) (x y : A) (u v : B) → u ≡ f x → v ≡ f y → cond b u v ≡ f (cond b x y)
cond_cong f true x y u v p q = p
cond_cong f false x y u v p q = q

-- what lies below s, and what lies above it, stays as it is
abbrev pub Left : {X : Type 0} → ℕ → (List (ℕ × X) → List (ℕ × X)) → Type 0
Left {X} s u = (lo m : ℕ) (xs ys : List (ℕ × X)) → Asc lo m xs → m ≤ s → u (xs ++ ys) ≡ xs ++ u ys

abbrev pub Right : {X : Type 0} → ℕ → (List (ℕ × X) → List (ℕ × X)) → Type 0
Right {X} s u = (m hi : ℕ) (ys zs : List (ℕ × X)) → Asc m hi zs → s < m → u (ys ++ zs) ≡ u ys ++ zs

module _ {X : Type 0} (s : ℕ) (a : X) where
  pub ins_left : Left s (ins s a)
  ins_left lo m [] ys p h = refl
  ins_left lo m (e ∷ r) ys p h =
      let q : e.0 < s = omega (arith, p.1.1, asc_le _ _ _ p.1.2) in
      let i = ins_left p.1.0 m r ys p.1.2 h in
      rw (le-ltb s e.0 (omega arith), lt-ltb e.0 s q, i)

  pub ins_right : Right s (ins s a)
  ins_right m hi [] [] p h = refl
  ins_right m hi [] (e ∷ r) p h = rw (lt-ltb s e.0 (omega (arith, p.0)))
  ins_right m hi (e ∷ r) zs p h =
      let i = ins_right m hi r zs p h in
      cond_cong (λ z. z ++ zs) (ltb s e.0) _ _ _ _ refl (cond_cong (λ z. z ++ zs) (ltb e.0 s) _ _ _ _ (ap (λ (z : List (ℕ × X)). e ∷ z) i) refl)

module _ {X : Type 0} (s : ℕ) where
  pub del_left : Left {X = X} s (del s)
  del_left lo m [] ys p h = refl
  del_left lo m (e ∷ r) ys p h =
      let q : e.0 < s = omega (arith, p.1.1, asc_le _ _ _ p.1.2) in
      let i = del_left p.1.0 m r ys p.1.2 h in
      rw (ne_eqb s e.0 (omega arith), i)

  del_above : (m hi : ℕ) (zs : List (ℕ × X)) → Asc m hi zs → s < m → del s zs ≡ zs
  del_above m hi [] p h = refl
  del_above m hi (e ∷ r) p h =
      let i = del_above p.1.0 hi r p.1.2 (omega (arith, p.0, p.1.1)) in
      rw (ne_eqb s e.0 (omega (arith, p.0)), i)

  pub del_right : Right {X = X} s (del s)
  del_right m hi [] zs p h = del_above m hi zs p h
  del_right m hi (e ∷ r) zs p h =
      let i = del_right m hi r zs p h in
      cond_cong (λ z. z ++ zs) (eqb s e.0) _ _ _ _ refl (ap (λ (z : List (ℕ × X)). e ∷ z) i)

pub flat_append : {X Y : Type 0} (R : ℕ → X → List Y) (xs ys : List (ℕ × X)) → flat R (xs ++ ys) ≡ flat R xs ++ flat R ys
flat_append R [] ys = refl
flat_append R (e ∷ r) ys = rw (flat_append R r ys) (sym (append_assoc (R e.0 e.1) (flat R r) (flat R ys)))

-- rows of entries ascend
pub seg_asc : {X P : Type 0} (G : ℕ → ℕ → Type 0) (W : ℕ → ℕ → X → Type 0) (R : ℕ → X → List (ℕ × P)) → ((a b : ℕ) → G a b → a ≤ b) → ((k m : ℕ) (x : X) → W k m x → Asc k m (R k x)) → (lo hi : ℕ) (es : List (ℕ × X)) → Seg G W lo hi es → Asc lo hi (flat R es)
seg_asc G W R g w lo hi [] p = g lo hi p
seg_asc {X} {P} G W R g w lo hi (e ∷ r) p =
    asc_from lo e.0 hi _ (g _ _ p.0)
    (seg_join ◌≤◌ (λ k m x. m ≡ suc k) (λ a b c. le_trans) e.0 p.1.0 hi (R e.0 e.1) (flat R r) (w _ _ _ p.1.1) (seg_asc G W R g w p.1.0 hi r p.1.2))
  where
    asc_from : (lo k hi : ℕ) (es : List (ℕ × P)) → lo ≤ k → Asc k hi es → Asc lo hi es
    asc_from lo k hi [] h q = omega (arith, h, q)
    asc_from lo k hi (e ∷ r) h q = (omega (arith, h, q.0), q.1)

-- the rows of the entries after `at` are the rows changed
module _ {X P : Type 0} (W : ℕ → ℕ → X → Type 0) (R : ℕ → X → List (ℕ × P)) (s : ℕ) (u : List (ℕ × P) → List (ℕ × P)) (left : Left s u) (right : Right s u) (asc : (k m : ℕ) (x : X) → W k m x → Asc k m (R k x)) where
  pub at_rows : (f : ℕ → X → List (ℕ × X)) → ((k m : ℕ) (x : X) → W k m x → k ≤ s → s < m → flat R (f k x) ≡ u (R k x)) → (lo hi : ℕ) (es : List (ℕ × X)) → 0 < length es → Seg ◌≡◌ W lo hi es → lo ≤ s → s < hi → flat R (at s f es) ≡ u (flat R es)
  at_rows f fr lo hi [] n p l h = absurd (not-suc-le-zero n)
  at_rows f fr lo hi (e ∷ r) n p l h =
      let k : e.0 ≤ s = omega (arith, p.0) in
      let m = p.1.0 in
      cond_both (ahead s r) (f e.0 e.1 ++ r) (e ∷ at s f r) (λ z. flat R z ≡ u (R e.0 e.1 ++ flat R r))
      (λ t. let b = ahead_below W s m hi r p.1.2 h t in
      flat_append R (f e.0 e.1) r ∙ ap (λ (z : List (ℕ × P)). z ++ flat R r) (fr e.0 m e.1 p.1.1 k b)
      ∙ sym (right m hi (R e.0 e.1) (flat R r) (seg_asc ◌≡◌ W R (λ a b q. omega (arith, q)) asc m hi r p.1.2) b))
      (λ t. ap (λ (z : List (ℕ × P)). R e.0 e.1 ++ z) (at_rows f fr m hi r (ahead_more r t) p.1.2 (ahead_above W s m hi r p.1.2 t) h)
      ∙ sym (left e.0 m (R e.0 e.1) (flat R r) (asc _ _ _ p.1.1) (ahead_above W s m hi r p.1.2 t)))
    where
      ahead_more : (r : List (ℕ × X)) → ahead s r ≡ false → 0 < length r
      ahead_more [] t = absurd (true≢false t)
      ahead_more (e ∷ r) t = omega arith

pub asc_length : {X : Type 0} (lo hi : ℕ) (es : List (ℕ × X)) → Asc lo hi es → lo + length es ≤ hi
asc_length lo hi [] p = omega (arith, p)
asc_length lo hi (e ∷ r) p = omega (arith, p.0, p.1.1, asc_length p.1.0 hi r p.1.2)

-- each entry has at least c rows
pub flat_least : {X Y : Type 0} (G : ℕ → ℕ → Type 0) (W : ℕ → ℕ → X → Type 0) (R : ℕ → X → List Y) (c : ℕ) → ((k m : ℕ) (x : X) → W k m x → c ≤ length (R k x)) → (lo hi : ℕ) (es : List (ℕ × X)) → Seg G W lo hi es → length es * c ≤ length (flat R es)
flat_least G W R c w lo hi [] p = rw zero-mul (omega arith)
flat_least G W R c w lo hi (e ∷ r) p = rw suc-mul (omega (arith, length-append (R e.0 e.1) (flat R r), w _ _ _ p.1.1, flat_least G W R c w p.1.0 hi r p.1.2))

not_nil : {X : Type 0} (r : List (ℕ × X)) → is_nil r ≡ false → 0 < length r
not_nil [] u = absurd (true≢false u)
not_nil (x ∷ r) u = omega arith

-- removal: the entry that covers s, with a neighbour
module _ {X : Type 0} (W W' : ℕ → ℕ → X → Type 0) (s : ℕ) (f : ℕ → X → List (ℕ × X)) (fR fL : (ℕ × X) → (ℕ × X) → List (ℕ × X)) (w : (k m : ℕ) (x : X) → W k m x → W' k m x)
    (fRw : (m : ℕ) (e d : ℕ × X) → W e.0 d.0 e.1 → W d.0 m d.1 → e.0 ≤ s → s < d.0 → Seg ◌≡◌ W' e.0 m (fR e d))
    (fLw : (m : ℕ) (e d : ℕ × X) → W e.0 d.0 e.1 → W d.0 m d.1 → d.0 ≤ s → s < m → Seg ◌≡◌ W' e.0 m (fL e d)) where
  pub beside_seg : (hi : ℕ) (e : ℕ × X) (r : List (ℕ × X)) → 0 < length r → Seg ◌≡◌ W e.0 hi (e ∷ r) → e.0 ≤ s → s < hi → Seg ◌≡◌ W' e.0 hi (beside s f fR fL e r)
  beside_seg hi e [] n p l h = absurd (not-suc-le-zero n)
  beside_seg hi e (d ∷ r) n p l h =
      let q = subst (λ (m : ℕ). W e.0 m e.1) p.1.2.0 p.1.1 in
      let z = p.1.2.1 in
      cond_both (ltb s d.0) _ _ (λ z. Seg ◌≡◌ W' e.0 hi z)
      (λ t. seg_join ◌≡◌ W' eq_trans e.0 z.0 hi (fR e d) r (fRw z.0 e d q z.1 l (ltb-true s d.0 t)) (seg_weak ◌≡◌ W W' w z.0 hi r z.2))
      (λ t. cond_both (is_nil r) _ _ (λ z. Seg ◌≡◌ W' e.0 hi z)
      (λ u. last r u z.0 q z.1 z.2 (ltb-false s d.0 t))
      (λ u. (refl, (d.0, w _ _ _ q, beside_seg hi d r (not_nil r u) (refl, z) (ltb-false s d.0 t) h))))
    where
      last : (r : List (ℕ × X)) → is_nil r ≡ true → (m : ℕ) → W e.0 d.0 e.1 → W d.0 m d.1 → Seg ◌≡◌ W m hi r → d.0 ≤ s → Seg ◌≡◌ W' e.0 hi (fL e d)
      last [] u m a b c g = fLw hi e d a (subst (λ (m : ℕ). W d.0 m d.1) c b) g h
      last (x ∷ r) u m a b c g = absurd (true≢false (sym u))

module _ {X P : Type 0} (W : ℕ → ℕ → X → Type 0) (R : ℕ → X → List (ℕ × P)) (s : ℕ) (u : List (ℕ × P) → List (ℕ × P)) (left : Left s u) (right : Right s u) (asc : (k m : ℕ) (x : X) → W k m x → Asc k m (R k x))
    (f : ℕ → X → List (ℕ × X)) (fR fL : (ℕ × X) → (ℕ × X) → List (ℕ × X))
    (fRr : (m : ℕ) (e d : ℕ × X) → W e.0 d.0 e.1 → W d.0 m d.1 → e.0 ≤ s → s < d.0 → flat R (fR e d) ≡ u (R e.0 e.1 ++ R d.0 d.1))
    (fLr : (m : ℕ) (e d : ℕ × X) → W e.0 d.0 e.1 → W d.0 m d.1 → d.0 ≤ s → s < m → flat R (fL e d) ≡ u (R e.0 e.1 ++ R d.0 d.1)) where
  pub beside_rows : (hi : ℕ) (e : ℕ × X) (r : List (ℕ × X)) → 0 < length r → Seg ◌≡◌ W e.0 hi (e ∷ r) → e.0 ≤ s → s < hi → flat R (beside s f fR fL e r) ≡ u (flat R (e ∷ r))
  beside_rows hi e [] n p l h = absurd (not-suc-le-zero n)
  beside_rows hi e (d ∷ r) n p l h =
      let q = subst (λ (m : ℕ). W e.0 m e.1) p.1.2.0 p.1.1 in
      let z = p.1.2.1 in
      let A = R e.0 e.1 in
      let B = R d.0 d.1 in
      let tail = seg_asc ◌≡◌ W R (λ a b q. omega (arith, q)) asc z.0 hi r z.2 in
      cond_both (ltb s d.0) _ _ (λ z. flat R z ≡ u (A ++ (B ++ flat R r)))
      (λ t. flat_append R (fR e d) r ∙ ap (λ (z : List (ℕ × P)). z ++ flat R r) (fRr z.0 e d q z.1 l (ltb-true s d.0 t))
      ∙ sym (right z.0 hi (A ++ B) (flat R r) tail (omega (arith, ltb-true s d.0 t, asc_le d.0 z.0 B (asc _ _ _ z.1)))) ∙ ap u (append_assoc A B (flat R r)))
      (λ t. cond_both (is_nil r) _ _ (λ z. flat R z ≡ u (A ++ (B ++ flat R r)))
      (λ v. last r v z.0 q z.1 z.2 (ltb-false s d.0 t))
      (λ v. ap (λ (z : List (ℕ × P)). A ++ z) (beside_rows hi d r (not_nil r v) (refl, z) (ltb-false s d.0 t) h)
      ∙ sym (left e.0 d.0 A (B ++ flat R r) (asc _ _ _ q) (ltb-false s d.0 t))))
    where
      last : (r : List (ℕ × X)) → is_nil r ≡ true → (m : ℕ) → W e.0 d.0 e.1 → W d.0 m d.1 → Seg ◌≡◌ W m hi r → d.0 ≤ s → flat R (fL e d) ≡ u (R e.0 e.1 ++ (R d.0 d.1 ++ flat R r))
      last [] v m a b c g = fLr hi e d a (subst (λ (m : ℕ). W d.0 m d.1) c b) g h ∙ ap (λ (z : List (ℕ × P)). u (R e.0 e.1 ++ z)) (sym (append-nil (R d.0 d.1)))
      last (x ∷ r) v m a b c g = absurd (true≢false (sym v))

-- how many entries removal leaves
pub beside_length : {X : Type 0} (s : ℕ) (f : ℕ → X → List (ℕ × X)) (fR fL : (ℕ × X) → (ℕ × X) → List (ℕ × X)) → ((k : ℕ) (x : X) → length (f k x) ≡ 1) → ((e d : ℕ × X) → (1 ≤ length (fR e d)) × (length (fR e d) ≤ 2)) → ((e d : ℕ × X) → (1 ≤ length (fL e d)) × (length (fL e d) ≤ 2)) → (e : ℕ × X) (r : List (ℕ × X)) → (suc (length r) ≤ suc (length (beside s f fR fL e r))) × (length (beside s f fR fL e r) ≤ suc (length r)) × (1 ≤ length (beside s f fR fL e r))
beside_length s f fR fL a b c e [] = omega (arith, a e.0 e.1)
beside_length {X} s f fR fL a b c e (d ∷ r) =
    let Q : List (ℕ × X) → Type 0 = λ z. (suc (suc (length r)) ≤ suc (length z)) × (length z ≤ suc (suc (length r))) × (1 ≤ length z) in
    cond_both (ltb s d.0) _ _ Q
    (λ t. omega (arith, length-append (fR e d) r, b e d))
    (λ t. cond_both (is_nil r) _ _ Q (λ u. omega (arith, c e d, nil_length r u)) (λ u. omega (arith, beside_length s f fR fL a b c d r)))
  where
    nil_length : (r : List (ℕ × X)) → is_nil r ≡ true → length r ≡ 0
    nil_length [] u = refl
    nil_length (x ∷ r) u = absurd (true≢false (sym u))

pub del_length : {X : Type 0} (s : ℕ) (es : List (ℕ × X)) → (length es ≤ suc (length (del s es))) × (length (del s es) ≤ length es)
del_length s [] = omega arith
del_length {X} s (e ∷ r) =
    let I = del_length s r in
    cond_both (eqb s e.0) r (e ∷ del s r) (λ (z : List (ℕ × X)). (suc (length r) ≤ suc (length z)) × (length z ≤ suc (length r))) (λ t. omega arith) (λ t. omega (arith, I))

pub asc_from : {X : Type 0} (lo k hi : ℕ) (es : List (ℕ × X)) → lo ≤ k → Asc k hi es → Asc lo hi es
asc_from lo k hi [] h q = omega (arith, h, q)
asc_from lo k hi (e ∷ r) h q = (omega (arith, h, q.0), q.1)

pub del_asc : {X : Type 0} (s lo hi : ℕ) (es : List (ℕ × X)) → Asc lo hi es → Asc lo hi (del s es)
del_asc s lo hi [] p = p
del_asc s lo hi (e ∷ r) p =
    cond_both (eqb s e.0) _ _ (λ z. Asc lo hi z)
    (λ t. asc_from lo p.1.0 hi r (omega (arith, p.0, p.1.1)) p.1.2)
    (λ t. (p.0, (p.1.0, p.1.1, del_asc s p.1.0 hi r p.1.2)))
