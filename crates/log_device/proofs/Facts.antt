-- What the log does to its image, and so to its meaning.
use Rattle.std.proofs.Common.{◌≡◌, ℕ, ◌+◌, ◌-◌, ◌/◌, ◌^◌, ◌<◌, ◌≤◌, min, true, false, cond, eqb, List, [], ◌∷◌, ◌++◌, map, Ok, length, get_or, take, drop, set, replicate, sym, refl, ap, ◌∙◌, subst, ⊎_elim, add-mul, arith}
use borrow.Rule.Slice.PartMut.{put_mid}
use Rattle.std.specs.List.{range_with_len, AllByRecursion}
use Rattle.std.proofs.lemmas.Nat.{mul-le, le-div, div-add-mod'}
use Rattle.std.proofs.lemmas.List.{length_push, length-set, length-append, length-take-le, length-drop, get_or-set_same, get_or-set_other, drop-take, drop-drop, drop-set-lt, get_or-take, get_or-drop, get_or_append_left, take-append-le, drop-append-le, take_all, drop_all}
use Rattle.std.proofs.ByRecursion.{All-append, All-take, All-drop, All-set}
use Rattle.std.proofs.lemmas.Slice.{between-put_mid, take-put_mid_below}
use Rattle.std.proofs.lemmas.List.FromFn.{length-map-range_with_len, map-range_with_len_more}
use Rattle.std.proofs.lemmas.Bool.{cases_eq, eq-eqb, ne_eqb}
use Rattle.device.specs.Meaning.{Meaning, Content, Cell, shown_of, words, held, reading, admitted, written, written_cell, flushed, flushed_cell, no_cell, own, spent}
use Rattle.device.specs.declared.Layer.TheVariants.{Log}
use Rattle.device.specs.Showing.{count_shown, content_shown}
use Rattle.device.proofs.Calls.{let_in, reading_at}
use Rattle.device.proofs.Tables.{get_or_table, set_table, same_table, map_map, rows}
use Rattle.word.specs.Words.{kind_of, payload_of, word_of}
use Rattle.log_device.specs.Log.{Record, last_of, count_of, log_cell, logged, record_at, records, flushed_in, capacity, log_of, Sound, place_of, with_record, IsRecord}
use Rattle.log_device.specs.Fit.{last_append}

abbrev make : ℕ → List Cell → ℕ → Meaning
make w cs l = record { width = w; cells = cs; left = l; left_mark = own Log }

count_append : (rs qs : List Record) (b : ℕ) → count_of (rs ++ qs) b ≡ count_of rs b + count_of qs b
count_append [] qs b = omega arith
count_append (r ∷ rs) qs b = ap (λ t. cond (eqb r.0 b) 1 0 + t) (count_append rs qs b) ∙ omega arith

-- one record more
module _ (n w : ℕ) (rs : List Record) (f cap b : ℕ) (ws : List ℕ) (h : b < n) (old : f ≤ length rs) where
  more : List Record
  more = rs ++ ((b, ws) ∷ [])

  front : take f (rs ++ ((b, ws) ∷ [])) ≡ take f rs
  front = take-append-le f rs ((b, ws) ∷ []) old

  back : (k : ℕ) → count_of (drop f (rs ++ ((b, ws) ∷ []))) k ≡ count_of (drop f rs) k + (cond (eqb b k) 1 0 + 0)
  back k = ap (λ qs. count_of qs k) (drop-append-le f rs ((b, ws) ∷ []) old) ∙ count_append (drop f rs) ((b, ws) ∷ []) k

  last_more : (k : ℕ) → last_of (rs ++ ((b, ws) ∷ [])) k (replicate w 0) ≡ cond (eqb b k) ws (last_of rs k (replicate w 0))
  last_more k = last_append rs ((b, ws) ∷ []) k (replicate w 0)

  cell_at : log_cell w (rs ++ ((b, ws) ∷ [])) f b ≡ written_cell ws (log_cell w rs f b)
  cell_at =
      let e : eqb b b ≡ true = eq-eqb b b refl in
      let p : take f (rs ++ ((b, ws) ∷ [])) ≡ take f rs = front in
      let q : last_of (rs ++ ((b, ws) ∷ [])) b (replicate w 0) ≡ ws = last_more b ∙ ap (λ t. cond t ws (last_of rs b (replicate w 0))) e in
      let s : count_of (drop f (rs ++ ((b, ws) ∷ []))) b ≡ count_of (drop f rs) b + 1 = back b ∙ ap (λ t. count_of (drop f rs) b + (cond t 1 0 + 0)) e in
      let m : min (count_of (drop f (rs ++ ((b, ws) ∷ []))) b) 2 ≡ min (min (count_of (drop f rs) b) 2 + 1) 2 = omega (arith, s) in
      cc

  cell_other : (k : ℕ) → k < n → (k ≡ b → ⊥) → log_cell w (rs ++ ((b, ws) ∷ [])) f k ≡ log_cell w rs f k
  cell_other k k< ne =
      let e : eqb b k ≡ false = ne_eqb b k (λ x. ne (sym x)) in
      let p : take f (rs ++ ((b, ws) ∷ [])) ≡ take f rs = front in
      let q : last_of (rs ++ ((b, ws) ∷ [])) k (replicate w 0) ≡ last_of rs k (replicate w 0) = last_more k ∙ ap (λ t. cond t ws (last_of rs k (replicate w 0))) e in
      let s : count_of (drop f (rs ++ ((b, ws) ∷ []))) k ≡ count_of (drop f rs) k + 0 = back k ∙ ap (λ t. count_of (drop f rs) k + (cond t 1 0 + 0)) e in
      let m : min (count_of (drop f (rs ++ ((b, ws) ∷ []))) k) 2 ≡ min (count_of (drop f rs) k) 2 = omega (arith, s) in
      cc

  pub logged_written : length rs < cap → cap ≤ 268435455 → logged n w (rs ++ ((b, ws) ∷ [])) f cap ≡ written (logged n w rs f cap) b ws
  logged_written room small =
      ap (λ (cs : List Cell). make w cs (cap - length (rs ++ ((b, ws) ∷ []))))
      (set_table (log_cell w rs f) (log_cell w (rs ++ ((b, ws) ∷ [])) f) n b (written_cell ws (get_or (map (log_cell w rs f) (range_with_len 0 n)) b no_cell)) h
      (cell_at ∙ sym (ap (written_cell ws) (get_or_table (log_cell w rs f) n b no_cell h))) cell_other)
      ∙ ap (make w (set (map (log_cell w rs f) (range_with_len 0 n)) b (written_cell ws (get_or (map (log_cell w rs f) (range_with_len 0 n)) b no_cell)))) less
    where
      less : cap - length (rs ++ ((b, ws) ∷ [])) ≡ spent (cap - length rs)
      less = let e = ne_eqb (cap - length rs) 4294967295 (λ x. omega arith) in rw e (omega (arith, length_push rs (b, ws)))

-- all records flushed
pub logged_flushed : (n w : ℕ) (rs : List Record) (f k cap : ℕ) → k ≡ length rs → logged n w rs k cap ≡ flushed (logged n w rs f cap)
logged_flushed n w rs f k cap e =
    ap (λ (cs : List Cell). make w cs (cap - length rs))
    (same_table (λ b. flushed_cell (log_cell w rs f b)) (log_cell w rs k) n
    (λ b h.
    let p : take k rs ≡ rs = take_all k rs (omega arith) in
    let q : drop k rs ≡ [] = drop_all k rs (omega arith) in
    ap (λ qs. cell_of qs (drop k rs) b) p ∙ ap (λ qs. cell_of rs qs b) q)
    ∙ sym (map_map flushed_cell (log_cell w rs f) (range_with_len 0 n)))
  where
    cell_of : List Record → List Record → ℕ → Cell
    cell_of xs ys b = record { persisted = words (last_of xs b (replicate w 0)); current = words (last_of rs b (replicate w 0)); mark = min (count_of ys b) 2 }

-- capacity
pub fits_in : (k w len : ℕ) → place_of w k ≤ len → k ≤ 268435455 → k ≤ capacity len w
fits_in k w len h s = omega (arith, le-div k (len - 1) (w + 1) (omega arith) (omega arith))

pub room_for : (k w len : ℕ) → 1 ≤ len → k < capacity len w → place_of w k + (w + 1) ≤ len
room_for k w len one h =
    omega (arith, rows k ((len - 1) / (w + 1)) (w + 1) (omega arith), div-add-mod' (len - 1) (w + 1))

-- words of a kind and a payload
pub kind_word : (t p : ℕ) → p < 2 ^ 28 → kind_of (word_of t p) ≡ t
kind_word t p h = omega arith

pub payload_word : (t p : ℕ) → p < 2 ^ 28 → payload_of (word_of t p) ≡ p
payload_word t p h = omega arith

-- two images with the same words in place of record i
pub same_record : (w : ℕ) (img img' : List ℕ) (i : ℕ) → get_or img' (place_of w i) 0 ≡ get_or img (place_of w i) 0
    → take w (drop (place_of w i + 1) img') ≡ take w (drop (place_of w i + 1) img) → record_at w img' i ≡ record_at w img i
same_record w img img' i p q = ap (λ x. (payload_of x, take w (drop (place_of w i + 1) img'))) p ∙ ap (λ ys. (payload_of (get_or img (place_of w i) 0), ys)) q

-- what is admitted has the right length and a block that is there
pub admitted_at : (img : List ℕ) (n w k b len : ℕ) → Ok tt ≡ admitted Log (shown_of (log_of img n w k)) b len → (len ≡ w) × (b < n)
admitted_at img n w k b len e =
    let t = let_in Log (shown_of (log_of img n w k)) b len e in
    (t.0, omega (arith, t.1, count_shown (log_of img n w k), length-map-range_with_len (log_cell w (records w img k) (flushed_in img)) 0 n))

pub read_at : (img : List ℕ) (n w k b len : ℕ) → b < n → len ≡ w → reading Log (shown_of (log_of img n w k)) b len ≡ Ok (last_of (records w img k) b (replicate w 0))
read_at img n w k b len h e =
    let cell = log_cell w (records w img k) (flushed_in img) in
    let m = log_of img n w k in
    reading_at Log (shown_of m) b len e (omega (arith, count_shown m, length-map-range_with_len cell 0 n, h))
    ∙ ap (λ (f : ℕ → Content). held (f b)) (content_shown m) ∙ ap (λ (c : Cell). held c.current) (get_or_table cell n b no_cell h)

-- the head is set
module _ (img : List ℕ) (n w k : ℕ) (s : Sound img n w k) where
  one : 1 ≤ length img
  one = omega (arith, s.room)

  abbrev headed : List ℕ
  headed = set img 0 (word_of 8 k)

  head_is : get_or headed 0 0 ≡ word_of 8 k
  head_is = get_or-set_same img 0 (word_of 8 k) 0 one

  head_word : (i : ℕ) → get_or headed (place_of w i) 0 ≡ get_or img (place_of w i) 0
  head_word i = get_or-set_other img 0 (place_of w i) (word_of 8 k) 0 (λ e. omega arith)

  pub head_record : (i : ℕ) → record_at w headed i ≡ record_at w img i
  head_record i = same_record w img headed i (head_word i) (ap (take w) (drop-set-lt (place_of w i + 1) img 0 (word_of 8 k) (omega arith)))

  pub flush_after : log_of headed n w k ≡ flushed (log_of img n w k)
  flush_after =
      let e : records w headed k ≡ records w img k = same_table (record_at w img) (record_at w headed) k (λ i h. head_record i) in
      let f : flushed_in headed ≡ k = ap payload_of head_is ∙ payload_word 8 k (omega (arith, s.small)) in
      let l : length headed ≡ length img = length-set img 0 (word_of 8 k) in
      ap (λ rs. logged n w rs (flushed_in headed) (capacity (length headed) w)) e
      ∙ ap (λ j. logged n w (records w img k) j (capacity (length headed) w)) f
      ∙ ap (λ j. logged n w (records w img k) k (capacity j w)) l
      ∙ logged_flushed n w (records w img k) (flushed_in img) k (capacity (length img) w) (sym (length-map-range_with_len (record_at w img) 0 k))

  pub flush_sound : Sound headed n w k
  flush_sound = record {
    limits = s.limits;
    room = omega (arith, s.room, length-set img 0 (word_of 8 k));
    small = s.small;
    head = ap kind_of head_is ∙ kind_word 8 k (omega (arith, s.small));
    flushed = omega (arith, ap payload_of head_is ∙ payload_word 8 k (omega (arith, s.small)));
    kinds = λ i h. subst (IsRecord n) (sym (head_word i)) (s.kinds i h);
    fits = All-set _ img 0 (word_of 8 k) (omega (arith, s.small)) s.fits;
  }

-- a record is written
module _ (img : List ℕ) (n w k : ℕ) (s : Sound img n w k) (b : ℕ) (ws : List ℕ) (h : b < n) (size : length ws ≡ w) (fits : AllByRecursion (λ x. x < 2 ^ 32) ws)
    (room : k < capacity (length img) w) (c : ℕ) (count : c ≡ w + 1) where
  abbrev at : ℕ
  at = place_of w k

  abbrev put : List ℕ
  put = put_mid (place_of w k) c img ((word_of 9 b) ∷ ws)

  ends : place_of w k + (w + 1) ≤ length img
  ends = room_for k w (length img) (omega (arith, s.room)) room

  put_length : length put ≡ length img
  put_length = simp (length-append, length-drop) (omega (arith, ends, length-take-le at img (omega (arith, ends))))

  put_low : (j : ℕ) → j < at → get_or put j 0 ≡ get_or img j 0
  put_low j j< =
      get_or_append_left (take at img) (((word_of 9 b) ∷ ws) ++ drop c (drop at img)) 0 j (omega (arith, length-take-le at img (omega (arith, ends))))
      ∙ get_or-take at img j 0 j<

  put_part : (j : ℕ) → j + w ≤ at → take w (drop j put) ≡ take w (drop j img)
  put_part j j< =
      sym (drop-take j w put) ∙ ap (drop j) (take-put_mid_below at c img ((word_of 9 b) ∷ ws) (j + w) j< (omega (arith, ends))) ∙ drop-take j w img

  pub put_old : (i : ℕ) → i < k → record_at w put i ≡ record_at w img i
  put_old i i< =
      let r = rows i k (w + 1) i< in
      same_record w img put i (put_low (place_of w i) (omega arith)) (put_part (place_of w i + 1) (omega arith))

  put_new : take (w + 1) (drop at put) ≡ (word_of 9 b) ∷ ws
  put_new =
      subst (λ j. take j (drop at put) ≡ (word_of 9 b) ∷ ws) (omega arith)
      (between-put_mid at c img ((word_of 9 b) ∷ ws) (at + (w + 1)) (omega (arith, ends)) (omega (arith, size)))

  put_word : get_or put at 0 ≡ word_of 9 b
  put_word =
      ap (λ j. get_or put j 0) (omega arith) ∙ sym (get_or-drop at put 0 0) ∙ sym (get_or-take (w + 1) (drop at put) 0 0 (omega arith)) ∙ ap (λ ys. get_or ys 0 0) put_new

  put_words : take w (drop (at + 1) put) ≡ ws
  put_words =
      ap (take w) (sym (drop-drop 1 at put)) ∙ sym (drop-take 1 w (drop at put)) ∙ ap (λ j. drop 1 (take j (drop at put))) (omega arith) ∙ ap (drop 1) put_new

  pub put_record : record_at w put k ≡ (b, ws)
  put_record =
      ap (λ x. (payload_of x, take w (drop (at + 1) put))) put_word
      ∙ ap (λ x. (x, take w (drop (at + 1) put))) (payload_word 9 b (omega (arith, s.limits.few)))
      ∙ ap (λ ys. (b, ys)) put_words

  put_records : records w put (k + 1) ≡ records w img k ++ ((b, ws) ∷ [])
  put_records =
      map-range_with_len_more (record_at w put) 0 k k (omega arith)
      ∙ ap (λ rs. rs ++ (record_at w put k ∷ [])) (same_table (record_at w img) (record_at w put) k put_old)
      ∙ ap (λ r. records w img k ++ (r ∷ [])) put_record

  pub write_after : log_of put n w (k + 1) ≡ written (log_of img n w k) b ws
  write_after =
      let f : flushed_in put ≡ flushed_in img = ap payload_of (put_low 0 (omega arith)) in
      let l : length (records w img k) ≡ k = length-map-range_with_len (record_at w img) 0 k in
      ap (λ rs. logged n w rs (flushed_in put) (capacity (length put) w)) put_records
      ∙ ap (λ j. logged n w (records w img k ++ ((b, ws) ∷ [])) j (capacity (length put) w)) f
      ∙ ap (λ j. logged n w (records w img k ++ ((b, ws) ∷ [])) (flushed_in img) (capacity j w)) put_length
      ∙ logged_written n w (records w img k) (flushed_in img) (capacity (length img) w) b ws h (omega (arith, l, s.flushed)) (omega (arith, l)) (omega arith)

  pub put_is : put ≡ with_record w img k b ws
  put_is = ap (λ ys. take (place_of w k) img ++ ((word_of 9 b ∷ ws) ++ ys)) (drop-drop c (place_of w k) img ∙ ap (λ j. drop j img) (omega (arith, add-mul k 1 (w + 1))))

  pub write_sound : Sound put n w (k + 1)
  write_sound = record {
    limits = s.limits;
    room = omega (arith, put_length, ends, add-mul k 1 (w + 1));
    small = omega arith;
    head = ap kind_of (put_low 0 (omega arith)) ∙ s.head;
    flushed = omega (arith, ap payload_of (put_low 0 (omega arith)), s.flushed);
    kinds = λ i i<. ⊎_elim
        (λ (e : i ≡ k). subst (λ j. IsRecord n (get_or put (place_of w j) 0)) (sym e)
        (subst (IsRecord n) (sym put_word) (kind_word 9 b (omega (arith, s.limits.few)), omega (arith, payload_word 9 b (omega (arith, s.limits.few))))))
        (λ (ne : i ≡ k → ⊥).
        let i<k : i < k = omega arith in
        subst (IsRecord n) (sym (put_low (place_of w i) (omega (arith, rows i k (w + 1) i<k)))) (s.kinds i i<k))
        (cases_eq i k);
    fits = All-append _ _ _ (All-take _ at img s.fits) (All-append _ ((word_of 9 b) ∷ ws) _ (omega (arith, s.limits.few), fits) (All-drop _ c _ (All-drop _ at img s.fits)));
  }

pub room_of : (k w len : ℕ) → 1 ≤ len → k ≤ capacity len w → place_of w k ≤ len
room_of k w len one h =
    omega (arith, mul-le k (w + 1) ((len - 1) / (w + 1)) (w + 1) (omega arith) (omega arith), div-add-mod' (len - 1) (w + 1))
