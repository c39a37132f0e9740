-- What the device in memory does to its slices, and so to its meaning.
use Rattle.std.proofs.Common.{◌≡◌, ℕ, zero, suc, ◌+◌, ◌-◌, ◌*◌, ◌^◌, ◌<◌, ◌≤◌, min, List, [], ◌∷◌, ◌++◌, map, length, get_or, take, drop, set, replicate, Ok, sym, refl, ap, ◌∙◌, subst, ⊎_elim, arith, rules, add-mul}
use borrow.Rule.Slice.PartMut.{put_mid}
use Rattle.std.specs.List.{range_with_len, AllByRecursion}
use Rattle.std.proofs.lemmas.List.{length-set, length-append, length-take-le, length-drop, get_or-set_same, get_or-set_other, drop-take, get_or-replicate, length-replicate, take-append-drop, drop-drop, ext_get_or, take-take, places}
use Rattle.std.proofs.lemmas.Nat.{mul-le}
use Rattle.std.proofs.ByRecursion.{All-append, All-take, All-drop}
use Rattle.std.proofs.lemmas.Slice.{between-put_mid, drop-put_mid, take-put_mid_below}
use Rattle.std.proofs.lemmas.List.FromFn.{length-map-range_with_len}
use Rattle.std.proofs.lemmas.Bool.{cases_eq, cases_lt, cases_order}
use Rattle.device.specs.Meaning.{Meaning, Content, Cell, shown_of, Limits, words, admitted, reading, held, written, written_cell, flushed, flushed_cell, no_cell, own, endless, Cut, CutCell}
use Rattle.device.specs.declared.Layer.TheVariants.{Memory}
use Rattle.device.specs.Showing.{count_shown, content_shown}
use Rattle.device.proofs.Calls.{let_in, reading_at}
use Rattle.device.proofs.Tables.{map_map, get_or_table, set_table, same_table, rows}
use Rattle.memory.specs.Memory.{Parts, parts, memory, cleared, Shaped, Sound, block_of, cell_of, Leaves, Outlasts}

module _ (xs : List ℕ) (w n : ℕ) (long : length xs ≡ n * w) where
  module _ (b k : ℕ) (ys : List ℕ) (h : b < n) (size : length ys ≡ w) (count : k ≡ w) where
    pub put_length : length (put_mid (b * w) k xs ys) ≡ n * w
    put_length = simp (length-append, length-drop) (omega (arith, length-take-le (b * w) xs (omega (arith, rows b n w h)), rows b n w h))

    pub put_same : block_of w (put_mid (b * w) k xs ys) b ≡ ys
    put_same =
        let e : (b * w + w) - b * w ≡ w = omega arith in
        subst (λ m. take m (drop (b * w) (put_mid (b * w) k xs ys)) ≡ ys) e
        (between-put_mid (b * w) k xs ys (b * w + w) (omega (arith, rows b n w h)) (omega arith))

    pub put_other : (j : ℕ) → j < n → (j ≡ b → ⊥) → block_of w (put_mid (b * w) k xs ys) j ≡ block_of w xs j
    put_other j j< ne =
        let a< : b * w ≤ length xs = omega (arith, rows b n w h) in
        ⊎_elim (λ (e : j ≡ b). absurd (ne e))
        (⊎_elim
        (λ (lt : j < b).
        sym (drop-take (j * w) w (put_mid (b * w) k xs ys))
        ∙ ap (drop (j * w)) (take-put_mid_below (b * w) k xs ys (j * w + w) (rows j b w lt) a<)
        ∙ drop-take (j * w) w xs)
        (λ (gt : b < j). ap (take w) (drop-put_mid (b * w) k xs ys (j * w) (omega (arith, rows b j w gt)) a< (omega arith))))
        (cases_order j b)

    pub put_all : (P : ℕ → Type 0) → AllByRecursion P xs → AllByRecursion P ys → AllByRecursion P (put_mid (b * w) k xs ys)
    put_all P px py = All-append P _ _ (All-take P (b * w) xs px) (All-append P _ _ py (All-drop P k _ (All-drop P (b * w) xs px)))

-- what is admitted has the right length and a block that is there
pub admitted_at : (p : Parts) (b n : ℕ) → Ok tt ≡ admitted Memory (shown_of (memory p)) b n → (n ≡ p.width) × (b < length p.marks)
admitted_at p b n e =
    let t = let_in Memory (shown_of (memory p)) b n e in
    (t.0, omega (arith, t.1, count_shown (memory p), length-map-range_with_len (cell_of p) 0 (length p.marks)))

module _ (p : Parts) (s : Sound p) where
  abbrev cur : List ℕ
  cur = p.current

  abbrev marks : List ℕ
  marks = p.marks

  abbrev w : ℕ
  w = p.width

  pub read_at : (b n : ℕ) → b < length marks → n ≡ w → reading Memory (shown_of (memory p)) b n ≡ Ok (block_of w cur b)
  read_at b n h e =
      reading_at Memory (shown_of (memory p)) b n e (omega (arith, count_shown (memory p), length-map-range_with_len (cell_of p) 0 (length p.marks), h))
      ∙ ap (λ (f : ℕ → Content). held (f b)) (content_shown (memory p))
      ∙ ap (λ (c : Cell). held c.current) (get_or_table (cell_of p) (length marks) b no_cell h)

  module _ (b k v : ℕ) (ws : List ℕ) (h : b < length marks) (size : length ws ≡ w) (count : k ≡ w) (more : v ≡ min (get_or marks b 0 + 1) 2) where
    abbrev put : Parts
    put = parts (put_mid (b * w) k cur ws) p.persisted (set marks b v) w

    after_at : cell_of put b ≡ written_cell ws (cell_of p b)
    after_at =
        let p = put_same cur w (length marks) s.shaped.cur_len b k ws h size count in
        let q = get_or-set_same marks b v 0 h ∙ more in
        cc

    after_other : (j : ℕ) → j < length marks → (j ≡ b → ⊥) → cell_of put j ≡ cell_of p j
    after_other j j< ne =
        let p = put_other cur w (length marks) s.shaped.cur_len b k ws h size count j j< ne in
        let q = get_or-set_other marks b j v 0 ne in
        cc

    pub write_after : memory put ≡ written (memory p) b ws
    write_after =
        ap (λ (cs : List Cell). with_cells cs)
        (ap (λ n. map (cell_of put) (range_with_len 0 n)) (length-set marks b v)
        ∙ set_table (cell_of p) (cell_of put) (length marks) b _ h
        (after_at ∙ sym (ap (written_cell ws) (get_or_table (cell_of p) (length marks) b no_cell h))) after_other)
      where
        with_cells : List Cell → Meaning
        with_cells cs = record { width = w; cells = cs; left = endless; left_mark = own Memory }

    pub write_sound : AllByRecursion (λ x. x < 2 ^ 32) ws → Sound put
    write_sound fits =
        let n : length (set marks b v) ≡ length marks = length-set marks b v in
        record {
          shaped = record {
            cur_len = put_length cur w (length marks) s.shaped.cur_len b k ws h size count ∙ ap (λ j. j * w) (sym n);
            per_len = s.shaped.per_len ∙ ap (λ j. j * w) (sym n);
            limits = subst (λ j. Limits j w) (sym n) s.shaped.limits;
          };
          counts = λ j j<. ⊎_elim
              (λ (e : j ≡ b). subst (λ i. get_or (set marks b v) i 0 ≤ 2) (sym e) (omega (arith, get_or-set_same marks b v 0 h)))
              (λ (ne : j ≡ b → ⊥). omega (arith, get_or-set_other marks b j v 0 ne, s.counts j (omega arith)))
              (cases_eq j b);
          clean = λ j j< z. ⊎_elim
              (λ (e : j ≡ b). absurd (clash (get_or-set_same marks b v 0 h) (subst (λ i. get_or (set marks b v) i 0 ≡ 0) e z)))
              (λ (ne : j ≡ b → ⊥). s.clean j (omega arith) (sym (get_or-set_other marks b j v 0 ne) ∙ z)
              ∙ sym (put_other cur w (length marks) s.shaped.cur_len b k ws h size count j (omega arith) ne))
              (cases_eq j b);
          cur_fit = put_all cur w (length marks) s.shaped.cur_len b k ws h size count _ s.cur_fit fits;
          per_fit = s.per_fit;
        }
      where
        clash : {x : ℕ} → x ≡ v → x ≡ 0 → ⊥
        clash p q = omega arith

  pub flush_after : memory (parts cur cur (replicate (length marks) 0) w) ≡ flushed (memory p)
  flush_after =
      ap (λ (cs : List Cell). with_cells cs)
      (ap (λ n. map (cell_of (parts cur cur (replicate (length marks) 0) w)) (range_with_len 0 n)) (length-replicate (length marks) 0)
      ∙ same_table (λ b. flushed_cell (cell_of p b)) (cell_of (parts cur cur (replicate (length marks) 0) w)) (length marks)
      (λ b h. let q = get_or-replicate {A = ℕ} (length marks) b 0 0 h in cc)
      ∙ sym (map_map flushed_cell (cell_of p) (range_with_len 0 (length marks))))
    where
      with_cells : List Cell → Meaning
      with_cells cs = record { width = w; cells = cs; left = endless; left_mark = own Memory }

-- opening after a cut shows a cut of what was shown before
module _ (p : Parts) (left : List ℕ) (s : Sound p) (l : Leaves p left) where
  pub cut_cleared : Cut (memory p) (cleared left (length p.marks) p.width)
  cut_cleared =
      let e : length (replicate {A = ℕ} (length p.marks) 0) ≡ length p.marks = length-replicate (length p.marks) 0 in
      record {
        width = refl;
        blocks = simp length-map-range_with_len e;
        cells = λ b h.
            let h₁ : b < length p.marks = omega (arith, length-map-range_with_len (cell_of p) 0 (length p.marks)) in
            subst (λ c. CutCell p.width c (get_or (cleared left (length p.marks) p.width).cells b no_cell)) (sym (get_or_table (cell_of p) (length p.marks) b no_cell h₁))
            (subst (CutCell p.width (cell_of p b))
            (sym (get_or_table (cell_of (parts left left (replicate (length p.marks) 0) p.width)) (length (replicate {A = ℕ} (length p.marks) 0)) b no_cell (omega arith)))
            (record {
              mark = get_or-replicate {A = ℕ} (length p.marks) b 0 0 h₁;
              equal = refl;
              from = l.blocks b h₁;
            }));
        left = omega arith;
        left_mark = omega arith;
      }

pub opened_cut : (left : List ℕ) (n w : ℕ) → Outlasts left n w (cleared left n w)
opened_cut left n w p e f s l = subst (λ k. Cut (memory p) (cleared left k w)) e (subst (λ v. Cut (memory p) (cleared left (length p.marks) v)) f (cut_cleared p left s l))

-- Persisting block by block: the blocks before i are done.
pub record Persisting (cur per marks : List ℕ) (w n i : ℕ) : Type 0 where
  pub cur_len : length cur ≡ n * w
  pub per_len : length per ≡ n * w
  pub count : length marks ≡ n
  pub clean : (b : ℕ) → b < n → get_or marks b 0 ≡ 0 → block_of w per b ≡ block_of w cur b
  pub done : (b : ℕ) → b < i → get_or marks b 0 ≡ 0

pub persist_start : (p : Parts) → Sound p → Persisting p.current p.persisted p.marks p.width (length p.marks) 0
persist_start p s = record {
  cur_len = s.shaped.cur_len;
  per_len = s.shaped.per_len;
  count = refl;
  clean = s.clean;
  done = λ b h. absurd (omega (arith, h));
}

module _ (cur per marks : List ℕ) (w n i : ℕ) (h : i < n) (p : Persisting cur per marks w n i) where
  pub persist_over : (k : ℕ) → ((b : ℕ) → i ≤ b → b < i + k → get_or marks b 0 ≡ 0) → Persisting cur per marks w n (i + k)
  persist_over k z = record {
    cur_len = p.cur_len;
    per_len = p.per_len;
    count = p.count;
    clean = p.clean;
    done = λ b l. ⊎_elim (λ (e : b < i). p.done b e) (λ (e : i ≤ b). z b e l) (cases_lt b i);
  }

-- a run of g blocks ends within the n blocks
pub run_fits : (i g n w : ℕ) → i + g ≤ n → i * w + g * w ≤ n * w
run_fits i g n w h = omega (arith, mul-le (i + g) w n w h (omega arith), add-mul i g w)

-- a block of a run is a part of the run
block_in_run : (v i m g : ℕ) (xs : List ℕ) → m * v + v ≤ g * v → block_of v xs (i + m) ≡ drop (m * v) (take (m * v + v) (take (g * v) (drop (i * v) xs)))
block_in_run v i m g xs fits =
    ap (λ k. take v (drop k xs)) (add-mul i m v)
    ∙ ap (take v) (sym (drop-drop (m * v) (i * v) xs))
    ∙ sym (drop-take (m * v) v (drop (i * v) xs))
    ∙ ap (drop (m * v)) (sym (take-take (m * v + v) (g * v) (drop (i * v) xs) fits))

same_in_run : (v i g b : ℕ) (xs ys : List ℕ) → i ≤ b → b < i + g → take (g * v) (drop (i * v) xs) ≡ take (g * v) (drop (i * v) ys) → block_of v xs b ≡ block_of v ys b
same_in_run v i g b xs ys low high same =
    let fits : (b - i) * v + v ≤ g * v = rows (b - i) g v (omega (arith, low, high)) in
    let at : b ≡ i + (b - i) = omega (arith, low) in
    ap (block_of v xs) at
    ∙ block_in_run v i (b - i) g xs fits
    ∙ ap (λ r. drop ((b - i) * v) (take ((b - i) * v + v) r)) same
    ∙ sym (block_in_run v i (b - i) g ys fits)
    ∙ sym (ap (block_of v ys) at)

-- A run of g blocks is copied whole, and its marks are taken away.
module _ (cur per marks : List ℕ) (w n i g k j : ℕ) (ys zs : List ℕ) (h : i + g ≤ n) (p : Persisting cur per marks w n i) where
  module _ (words : k ≡ g * w) (count : j ≡ g) (copied : ys ≡ take (g * w) (drop (i * w) cur)) (taken : zs ≡ replicate g 0) where
    abbrev per′ : List ℕ
    per′ = put_mid (i * w) k per ys

    abbrev marks′ : List ℕ
    marks′ = put_mid i j marks zs

    size : length ys ≡ g * w
    size = ap length copied ∙ length-take-le (g * w) (drop (i * w) cur) (simp length-drop (omega (arith, run_fits i g n w h, p.cur_len)))

    zeros : length zs ≡ g
    zeros = ap length taken ∙ length-replicate g 0

    long : length per′ ≡ n * w
    long = simp (length-append, length-drop) (omega (arith, length-take-le (i * w) per (omega (arith, run_fits i g n w h, p.per_len)), run_fits i g n w h, p.per_len, size, words))

    many : length marks′ ≡ n
    many = simp (length-append, length-drop) (omega (arith, length-take-le i marks (omega (arith, h, p.count)), h, p.count, zeros, count))

    inside : take (g * w) (drop (i * w) per′) ≡ ys
    inside =
        let e : (i * w + g * w) - i * w ≡ g * w = omega arith in
        subst (λ m. take m (drop (i * w) per′) ≡ ys) e
        (between-put_mid (i * w) k per ys (i * w + g * w) (omega (arith, run_fits i g n w h, p.per_len)) (omega (arith, size)))

    before : (b : ℕ) → b < i → block_of w per′ b ≡ block_of w per b
    before b lt =
        sym (drop-take (b * w) w per′)
        ∙ ap (drop (b * w)) (take-put_mid_below (i * w) k per ys (b * w + w) (rows b i w lt) (omega (arith, run_fits i g n w h, p.per_len)))
        ∙ drop-take (b * w) w per

    after : (b : ℕ) → i + g ≤ b → block_of w per′ b ≡ block_of w per b
    after b le = ap (take w) (drop-put_mid (i * w) k per ys (b * w) (omega (arith, run_fits i g b w le, words)) (omega (arith, run_fits i g n w h, p.per_len)) (omega (arith, size, words)))

    mark_before : (b : ℕ) → b < i → get_or marks′ b 0 ≡ get_or marks b 0
    mark_before b lt = search (rules, places)

    mark_inside : (b : ℕ) → i ≤ b → b < i + g → get_or marks′ b 0 ≡ 0
    mark_inside b low high = search (rules, places)

    mark_after : (b : ℕ) → i + g ≤ b → get_or marks′ b 0 ≡ get_or marks b 0
    mark_after b le = search (rules, places)

    pub persist_run : Persisting cur per′ marks′ w n (i + g)
    persist_run = record {
      cur_len = p.cur_len;
      per_len = long;
      count = many;
      clean = λ b l z. ⊎_elim
          (λ (lt : b < i). before b lt ∙ p.clean b l (p.done b lt))
          (λ (low : i ≤ b). ⊎_elim
          (λ (high : b < i + g). same_in_run w i g b per′ cur low high (inside ∙ copied))
          (λ (le : i + g ≤ b). after b le ∙ p.clean b l (sym (mark_after b le) ∙ z))
          (cases_lt b (i + g)))
          (cases_lt b i);
      done = λ b l. ⊎_elim (λ (lt : b < i). mark_before b lt ∙ p.done b lt) (λ (low : i ≤ b). mark_inside b low l) (cases_lt b i);
    }

-- words are the same where they are block by block
by_blocks : (v n : ℕ) (xs ys : List ℕ) → length xs ≡ n * v → length ys ≡ n * v → ((b : ℕ) → b < n → block_of v xs b ≡ block_of v ys b) → xs ≡ ys
by_blocks v zero xs ys k l same = none xs (k ∙ zero_times) ∙ sym (none ys (l ∙ zero_times))
  where
    zero_times : 0 * v ≡ 0
    zero_times = omega arith

    none : (zs : List ℕ) → length zs ≡ 0 → zs ≡ []
    none [] e = refl
    none (z ∷ zs) e = absurd (omega (arith, e))
by_blocks v (suc n) xs ys k l same =
    sym (take-append-drop v xs)
    ∙ ap (λ (a : List ℕ). a ++ drop v xs) (sym (front xs) ∙ same 0 (omega arith) ∙ front ys)
    ∙ ap (λ (b : List ℕ). take v ys ++ b)
    (by_blocks v n (drop v xs) (drop v ys) (simp length-drop (omega (arith, k))) (simp length-drop (omega (arith, l)))
    (λ b h. later xs b ∙ same (suc b) (omega (arith, h)) ∙ sym (later ys b)))
    ∙ take-append-drop v ys
  where
    front : (zs : List ℕ) → block_of v zs 0 ≡ take v zs
    front zs = let e : 0 * v ≡ 0 = omega arith in ap (λ (m : ℕ). take v (drop m zs)) e

    later : (zs : List ℕ) (b : ℕ) → block_of v (drop v zs) b ≡ block_of v zs (suc b)
    later zs b = let e : v + b * v ≡ suc b * v = omega arith in ap (take v) (drop-drop (b * v) v zs ∙ ap (λ (m : ℕ). drop m zs) e)

-- all blocks are done
module _ (cur per marks : List ℕ) (w n : ℕ) (p : Persisting cur per marks w n n) where
  pub persist_end : per ≡ cur
  persist_end = by_blocks w n per cur p.per_len p.cur_len (λ b h. p.clean b h (p.done b h))

  pub persist_marks : marks ≡ replicate n 0
  persist_marks = ext_get_or 0 marks (replicate n 0) (p.count ∙ sym (length-replicate n 0)) (λ k h. p.done k (omega (arith, h, p.count)) ∙ sym (get_or-replicate n k 0 0 (omega (arith, h, p.count))))

-- what a memory means determines its slices
module _ (p q : Parts) (s : Shaped p) (t : Shaped q) (e : memory p ≡ memory q) where
  same_width : p.width ≡ q.width
  same_width = ap (λ (m : Meaning). m.width) e

  same_count : length p.marks ≡ length q.marks
  same_count =
      sym (length-map-range_with_len (cell_of p) 0 (length p.marks)) ∙ ap (λ (m : Meaning). length m.cells) e
      ∙ length-map-range_with_len (cell_of q) 0 (length q.marks)

  same_cell : (b : ℕ) → b < length p.marks → cell_of p b ≡ cell_of q b
  same_cell b h =
      sym (get_or_table (cell_of p) (length p.marks) b no_cell h) ∙ ap (λ (m : Meaning). get_or m.cells b no_cell) e
      ∙ get_or_table (cell_of q) (length q.marks) b no_cell (omega (arith, h, same_count))

  same_words : (xs ys : List ℕ) → length xs ≡ length p.marks * p.width → length ys ≡ length q.marks * q.width
      → ((b : ℕ) → b < length p.marks → words (block_of p.width xs b) ≡ words (block_of q.width ys b)) → xs ≡ ys
  same_words xs ys k l f =
      by_blocks p.width (length p.marks) xs ys k (l ∙ ap (λ n. n * q.width) (sym same_count) ∙ ap (λ w. length p.marks * w) (sym same_width))
      (λ b h. inner _ _ (f b h) ∙ ap (λ w. block_of w ys b) (sym same_width))
    where
      inner : (us vs : List ℕ) → words us ≡ words vs → us ≡ vs
      inner us vs r = cc

  pub same_parts : p ≡ q
  same_parts =
      let cur : p.current ≡ q.current = same_words p.current q.current s.cur_len t.cur_len (λ b h. ap (λ (c : Cell). c.current) (same_cell b h)) in
      let per : p.persisted ≡ q.persisted = same_words p.persisted q.persisted s.per_len t.per_len (λ b h. ap (λ (c : Cell). c.persisted) (same_cell b h)) in
      let marks : p.marks ≡ q.marks = ext_get_or 0 p.marks q.marks same_count (λ b h. ap (λ (c : Cell). c.mark) (same_cell b h)) in
      λ i. record { current = cur i; persisted = per i; marks = marks i; width = same_width i }
