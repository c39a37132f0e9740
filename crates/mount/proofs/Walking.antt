-- The steps of the walk.
use Rattle.std.proofs.Common.{◌≡◌, ℕ, zero, suc, ◌+◌, ◌-◌, ◌<◌, ◌≤◌, Bool, true, false, cond, ◌&&◌, eqb, ltb, leb, List, [], ◌∷◌, length, get_or, drop, Some, None, Ok, Err, Option, Result, sym, refl, ap, ◌∙◌, subst, ap₂, arith}
use Rattle.std.proofs.lemmas.Bool.{and_parts, ltb-true, eqb-true}
use Rattle.std.specs.Option.{option_or}
use Rattle.device.specs.Meaning.{Meaning, Content, blocks_of, current_at}
use Rattle.std.proofs.lemmas.List.{drop_more}
use Rattle.page.specs.Block.{Block, block_at, kids_of, children}
use Rattle.tree.specs.Layout.{next}
use Rattle.counts.specs.Counts.{occ}
use Rattle.counts.specs.Keeping.{retained}
use Rattle.counts.proofs.Opens.{few_kids, parents_le}
use Rattle.model.specs.declared.refusal.Refusal.{Refusal}
use Rattle.model.specs.TreeBlocks.{entries_in}
use Rattle.model.specs.Walk.{Fault, payable, among, fault_below, fault_at}
use Rattle.mount.specs.declared.walk.Due.{Due}
use Rattle.mount.specs.Due.{own_fault, first_fault, passes, Loaded}
use Rattle.mount.specs.Tally.{along, tallied, kids, Room}
use Rattle.mount.proofs.Lists.{every_at}
use Rattle.mount.proofs.Blocks.{split_fault, loaded_made}
use Rattle.mount.proofs.Tally.{tallies, count_first}

-- Counts stay small.
pub count_small : (m : Meaning) (cs due : List ℕ) (b : ℕ) → length cs ≤ 4096 → Room (m, cs) due → get_or cs b 0 < 65535
count_small m cs due b few r =
    omega (arith, r.owing b, r.modest b, few, parents_le (λ x. kids_of (block_at m x)) cs b (few_kids m))

-- Answers.
pub passes_none : (k : ℕ) (o : Option Fault) → Ok tt ≡ passes k o → o ≡ None
passes_none k None h = refl
passes_none k (Some f) h = absurd (let z : ◌≡◌ {A = ℕ} 0 1 = cc in omega arith)

pub passes_stop : (k : ℕ) (o x : Option Fault) (e : Refusal) → Err e ≡ passes k o → Err e ≡ passes k (option_or o x)
passes_stop k None x e h = absurd (let z : ◌≡◌ {A = ℕ} 0 1 = cc in omega arith)
passes_stop k (Some f) x e h = h

-- One level of the definitions.
below_index : (n : ℕ) (c : ℕ → Content) (l hi : ℕ) (es : List (ℕ × ℕ)) → 0 < l → fault_below n c l hi es ≡ among (fault_at n c 7 (l - 1)) hi es
below_index n c zero hi es h = absurd (omega arith)
below_index n c (suc l) hi es h = let e : l ≡ suc l - 1 = omega arith in ap (λ k. among (fault_at n c 7 k) hi es) e

split_tally : (m : Meaning) (l b : ℕ) (cs : List ℕ) → 0 < l → tallied m l b cs ≡ cond (eqb (get_or cs b 0) 0) (along (tallied m (l - 1)) (entries_in (block_at m b)) (retained b cs)) (retained b cs)
split_tally m zero b cs h = absurd (omega arith)
split_tally m (suc l) b cs h =
    let e : l ≡ suc l - 1 = omega arith in
    ap (λ k. cond (eqb (get_or cs b 0) 0) (along (tallied m k) (entries_in (block_at m b)) (retained b cs)) (retained b cs)) e

kids_pos : (l : ℕ) (es : List (ℕ × ℕ)) → 0 < l → children l es ≡ kids es
kids_pos zero es h = absurd (omega arith)
kids_pos (suc l) es h = refl

payable_in : (n l : ℕ) (e : ℕ × ℕ) → 0 < l → payable n l e ≡ true → e.1 < n
payable_in n zero e h k = absurd (omega arith)
payable_in n (suc l) e h k = ltb-true e.1 n (and_parts (leb 2 e.1) (ltb e.1 n) k).1

-- the first fault of a child
abbrev pub child_fault : Meaning → Due → ℕ → ℕ → ℕ → Option Fault
child_fault m d = fault_at (blocks_of m) (current_at m) 7 (d.level - 1)

-- the block's own fault is the first
pub own_first : (m : Meaning) (d : Due) (e : Refusal) → Err e ≡ passes d.clone (own_fault m d) → Err e ≡ passes d.clone (first_fault m d)
own_first m d e h = passes_stop d.clone (own_fault m d) _ e h ∙ sym (ap (passes d.clone) (split_fault m d))

-- At a block that was loaded, over its entries.
module _ (m : Meaning) (d : Due) (p : Block) (ld : Loaded m d p) where
  abbrev es : List (ℕ × ℕ)
  es = p.entries

  entries_here : entries_in (block_at m d.block) ≡ es
  entries_here = ap entries_in ld.here

  kids_here : 0 < d.level → kids_of (block_at m d.block) ≡ kids es
  kids_here h = ap kids_of ld.here ∙ kids_pos p.level es (omega (arith, (loaded_made m d p ld).level))

  first_below : first_fault m d ≡ fault_below (blocks_of m) (current_at m) d.level d.high es
  first_below =
      split_fault m d
      ∙ ap (λ o. option_or o (fault_below (blocks_of m) (current_at m) d.level d.high (entries_in (block_at m d.block)))) ld.fine
      ∙ ap (fault_below (blocks_of m) (current_at m) d.level d.high) entries_here

  first_among : 0 < d.level → first_fault m d ≡ among (child_fault m d) d.high es
  first_among up = first_below ∙ below_index (blocks_of m) (current_at m) d.level d.high es up

  pub start_room : (counting first : Bool) (cs cs' : List ℕ) → 0 < d.level → d.block < length cs → (counting ≡ true → Room (m, cs) (d.block ∷ []))
      → first ≡ (counting && eqb (get_or cs d.block 0) 0) → cs' ≡ cond counting (retained d.block cs) cs → first ≡ true → Room (m, cs') (kids es)
  start_room counting first cs cs' up lt room ef ec t =
      let a = and_parts counting (eqb (get_or cs d.block 0) 0) (sym ef ∙ t) in
      let z = eqb-true (get_or cs d.block 0) 0 a.1 in
      let r = room a.0 in
      let e : cs' ≡ retained d.block cs = ec ∙ ap (λ x. cond x (retained d.block cs) cs) a.0 in
      subst (λ ds. Room (m, ds) (kids es)) (sym e)
      (record {
        outside = r.outside;
        others = r.others;
        owing = λ b. omega (arith, count_first (block_at m) cs r.outside r.others d.block lt (λ x. omega (arith, r.owing x)) z b, ap (occ b) (kids_here up));
        modest = r.modest;
      })

  child_in : (i s c : ℕ) (rest : List (ℕ × ℕ)) → 0 < d.level → drop i es ≡ (s, c) ∷ rest → c < blocks_of m
  child_in i s c rest up e =
      let pays = payable (blocks_of m) d.level in
      payable_in (blocks_of m) d.level (s, c) up (every_at pays i es rest (s, c) (loaded_made m d p ld).pays e)

  -- a child's fault is the first
  pub child_first : (i s c : ℕ) (rest : List (ℕ × ℕ)) (e : Refusal) → 0 < d.level → drop i es ≡ (s, c) ∷ rest
      → among (child_fault m d) d.high (drop i es) ≡ among (child_fault m d) d.high es
      → Err e ≡ passes d.clone (child_fault m d s (next d.high rest) c) → Err e ≡ passes d.clone (first_fault m d)
  child_first i s c rest e up q inv f =
      passes_stop d.clone (child_fault m d s (next d.high rest) c) (among (child_fault m d) d.high rest) e f
      ∙ sym (ap (passes d.clone) (first_among up ∙ sym inv ∙ ap (among (child_fault m d) d.high) q))

  -- no child has a fault
  pub no_fault : (rest : List (ℕ × ℕ)) → 0 < d.level → rest ≡ [] → among (child_fault m d) d.high rest ≡ among (child_fault m d) d.high es → Ok tt ≡ passes d.clone (first_fault m d)
  no_fault rest up end inv = sym (ap (passes d.clone) (first_among up ∙ sym inv ∙ ap (among (child_fault m d) d.high) end))

  pub all_counted : (rest : List (ℕ × ℕ)) (counting first : Bool) (cs cs' ds : List ℕ) → 0 < d.level → rest ≡ []
      → first ≡ (counting && eqb (get_or cs d.block 0) 0) → cs' ≡ cond counting (retained d.block cs) cs
      → cond first (along (tallied m (d.level - 1)) rest ds) ds ≡ cond first (along (tallied m (d.level - 1)) es cs') cs'
      → ds ≡ cond counting (tallied m d.level d.block cs) cs
  all_counted rest counting first cs cs' ds up end ef ec inv =
      let T = tallied m (d.level - 1) in
      let same : ds ≡ cond first (along T rest ds) ds = sym (ap (λ es. cond first (along T es ds) ds) end ∙ equal first) in
      same ∙ inv ∙ by counting first ef ec
    where
      equal : (t : Bool) → cond t ds ds ≡ ds
      equal true = refl
      equal false = refl

      by : (counting first : Bool) → first ≡ (counting && eqb (get_or cs d.block 0) 0) → cs' ≡ cond counting (retained d.block cs) cs
          → cond first (along (tallied m (d.level - 1)) es cs') cs' ≡ cond counting (tallied m d.level d.block cs) cs
      by false first ef ec = ap (λ t. cond t (along (tallied m (d.level - 1)) es cs') cs') ef ∙ ec
      by true first ef ec =
          ap (λ t. cond t (along (tallied m (d.level - 1)) es cs') cs') ef
          ∙ ap (λ xs. cond (eqb (get_or cs d.block 0) 0) (along (tallied m (d.level - 1)) es xs) xs) ec
          ∙ ap (λ es. cond (eqb (get_or cs d.block 0) 0) (along (tallied m (d.level - 1)) es (retained d.block cs)) (retained d.block cs)) (sym entries_here)
          ∙ sym (split_tally m d.level d.block cs up)

-- One turn of the loop over the entries es of a block: the child c at entry i, with separator s.
pub record Turn (m : Meaning) (es : List (ℕ × ℕ)) (i s c : ℕ) : Type 0 where
  pub here : drop i es ≡ (s, c) ∷ drop (i + 1) es
  pub within : c < blocks_of m

pub turn : (m : Meaning) (d : Due) (p : Block) (i s c : ℕ) → Loaded m d p → 0 < d.level → i < length p.entries → s ≡ (get_or p.entries i (0, 0)).0 → c ≡ (get_or p.entries i (0, 0)).1 → Turn m p.entries i s c
turn m d p i s c ld up lt es ec =
    let q : drop i p.entries ≡ (s, c) ∷ drop (i + 1) p.entries = drop_more p.entries i (0, 0) lt ∙ sym (ap₂ (λ (x y : ℕ). (x, y) ∷ drop (i + 1) p.entries) es ec) in
    record { here = q; within = child_in m d p ld i s c (drop (i + 1) p.entries) up q }

-- what is answered for the child, walked on a device that means m, below the bound that was looked up in the page
pub child_answer : (m mᵢ : Meaning) (d : Due) (p : Block) (i high s c : ℕ) (r : Result Unit Refusal) → mᵢ ≡ m → high ≡ next d.high (drop (i + 1) p.entries)
    → r ≡ passes d.clone (child_fault mᵢ d s high c) → r ≡ passes d.clone (child_fault m d s (next d.high (drop (i + 1) p.entries)) c)
child_answer m mᵢ d p i high s c r kept up a =
    a ∙ ap (λ m. passes d.clone (child_fault m d s high c)) kept ∙ ap (λ u. passes d.clone (child_fault m d s u c)) up

-- the next child's reference is due
pub next_room : (m : Meaning) (cs : List ℕ) (es rest : List (ℕ × ℕ)) (s c : ℕ) → es ≡ (s, c) ∷ rest → Room (m, cs) (kids es) → Room (m, cs) (c ∷ [])
next_room m cs es rest s c e r = record {
  outside = r.outside;
  others = λ b. occ b (kids rest) + r.others b;
  owing = λ b. omega (arith, r.owing b, ap (λ es. occ b (kids es)) e);
  modest = r.modest;
}

-- A child was walked.
pub among_step : (f : ℕ → ℕ → ℕ → Option Fault) (hi : ℕ) (es rest all : List (ℕ × ℕ)) (s c : ℕ) → es ≡ (s, c) ∷ rest → f s (next hi rest) c ≡ None → among f hi es ≡ among f hi all → among f hi rest ≡ among f hi all
among_step f hi es rest all s c e k inv = sym (ap (λ o. option_or o (among f hi rest)) k) ∙ sym (ap (among f hi) e) ∙ inv

module _ (m : Meaning) (l s hi c : ℕ) (first : Bool) (cs ds : List ℕ) (low : l < 5) (long : length cs ≡ blocks_of m) (lt : c < blocks_of m) (k : fault_at (blocks_of m) (current_at m) 7 l s hi c ≡ None) (e : ds ≡ cond first (tallied m l c cs) cs) where
  pub room_step : (es rest : List (ℕ × ℕ)) → es ≡ (s, c) ∷ rest → (first ≡ true → Room (m, cs) (kids es)) → first ≡ true → Room (m, ds) (kids rest)
  room_step es rest q room t =
      let r = room t in
      let w = tallies m 7 l s hi c cs low (omega (arith, lt, long)) long k in
      subst (λ zs. Room (m, zs) (kids rest)) (sym (e ∙ ap (λ x. cond x (tallied m l c cs) cs) t))
      (record {
        outside = r.outside;
        others = r.others;
        owing = w.1 r.outside (λ b. occ b (kids rest) + r.others b) (λ b. omega (arith, r.owing b, ap (λ es. occ b (kids es)) q));
        modest = r.modest;
      })

pub along_step : (m : Meaning) (l c s : ℕ) (first : Bool) (cs ds xs : List ℕ) (es rest : List (ℕ × ℕ)) → es ≡ (s, c) ∷ rest → ds ≡ cond first (tallied m l c cs) cs
    → cond first (along (tallied m l) es cs) cs ≡ xs → cond first (along (tallied m l) rest ds) ds ≡ xs
along_step m l c s true cs ds xs es rest e k inv = ap (along (tallied m l) rest) k ∙ sym (ap (λ zs. along (tallied m l) zs cs) e) ∙ inv
along_step m l c s false cs ds xs es rest e k inv = k ∙ inv
