-- Records that lie at places in memory: which bytes they depend on. Assumes nothing.
use Rattle.std.proofs.Common.{◌≡◌, ℕ, ◌+◌, ◌*◌, ◌<◌, ◌≤◌, ◌≢◌, List, length, get_or, ⊎_elim, add-zero, add_assoc, arith, rules}
use Rattle.byte_tape.specs.Bytes.{record_bytes, number_at, decoded_at, decoded, record_in}
use Rattle.std.proofs.lemmas.List.{places}
use Rattle.std.proofs.lemmas.Bool.{cases_lt}
use Rattle.tape.specs.Tapes.{with_mark}
use borrow.Rule.Slice.PartMut.{put_mid}

abbrev pub Same : List ℕ → ℕ → List ℕ → ℕ → ℕ → Type 0
Same xs a ys b n = (m : ℕ) → m < n → get_or xs (a + m) 0 ≡ get_or ys (b + m) 0

number_same : (xs ys : List ℕ) (a b : ℕ) → Same xs a ys b 4 → number_at xs a ≡ number_at ys b
number_same xs ys a b same =
    let zeroth : get_or xs a 0 ≡ get_or ys b 0 = rw (← add-zero a, ← add-zero b) (same 0 (omega arith)) in
    let first = same 1 (omega arith) in
    let second = same 2 (omega arith) in
    let third = same 3 (omega arith) in
    cc

-- the same bytes are the same record
pub record_same : (xs ys : List ℕ) (a b : ℕ) → Same xs a ys b record_bytes → decoded_at xs a ≡ decoded_at ys b
record_same xs ys a b same =
    λ i. record {
      product = number_same xs ys a b (λ m lt. same m (omega arith)) i;
      time = word 4 (omega arith) i;
      price = word 8 (omega arith) i;
      quantity = word 12 (omega arith) i;
      buy = word 16 (omega arith) i;
      sell = word 20 (omega arith) i;
      buyer = word 24 (omega arith) i;
      seller = word 28 (omega arith) i;
      established = word 32 (omega arith) i;
      no_bust = word 36 (omega arith) i;
      mark = word 40 (omega arith) i;
      day = word 44 (omega arith) i;
    }
  where
    word : (w : ℕ) → w + 4 ≤ record_bytes → number_at xs (a + w) ≡ number_at ys (b + w)
    word w in' =
        number_same xs ys (a + w) (b + w)
        (λ m lt. rw (add_assoc a w m, add_assoc b w m) (same (w + m) (omega arith)))

-- bytes written in a record's place
module _ (xs ys : List ℕ) (k a n : ℕ) (long : length ys ≡ n) (low : record_bytes * k ≤ a) (high : a + n ≤ record_bytes * k + record_bytes) (in' : record_bytes * k + record_bytes ≤ length xs) where
  pub long_written : length (put_mid a n xs ys) ≡ length xs
  long_written = search (rules, arith, places)

  pub others_written : (j : ℕ) → j ≢ k → record_in (put_mid a n xs ys) j ≡ record_in xs j
  others_written j ne =
      record_same (put_mid a n xs ys) xs (record_bytes * j) (record_bytes * j)
      (λ m lt.
      ⊎_elim
      (λ (l : j < k). let before : record_bytes * j + m < a = omega arith in search (rules, arith, places))
      (λ (l : k ≤ j). let behind : a + n ≤ record_bytes * j + m = omega arith in search (rules, arith, places))
      (cases_lt j k))

-- the whole of a record written
module _ (xs ys : List ℕ) (k n : ℕ) (long : length ys ≡ record_bytes) (all : n ≡ record_bytes) (in' : record_bytes * k + record_bytes ≤ length xs) where
  pub here_written : record_in (put_mid (record_bytes * k) n xs ys) k ≡ decoded ys
  here_written =
      record_same (put_mid (record_bytes * k) n xs ys) ys (record_bytes * k) 0
      (λ m lt. search (rules, arith, places))

-- its mark written
module _ (xs ys : List ℕ) (a n : ℕ) (long : length ys ≡ 4) (all : n ≡ 4) (in' : a + record_bytes ≤ length xs) where
  abbrev rewritten : List ℕ
  rewritten = put_mid (a + 40) n xs ys

  kept : (w : ℕ) → w + 4 ≤ 40 → number_at rewritten (a + w) ≡ number_at xs (a + w)
  kept w low =
      number_same rewritten xs (a + w) (a + w)
      (λ m lt. let before : a + w + m < a + 40 = omega arith in search (rules, arith, places))

  pub marked_here : decoded_at rewritten a ≡ with_mark (number_at ys 0) (decoded_at xs a)
  marked_here =
      λ i. record {
        product = number_same rewritten xs a a (λ m lt. let before : a + m < a + 40 = omega arith in search (rules, arith, places)) i;
        time = kept 4 (omega arith) i;
        price = kept 8 (omega arith) i;
        quantity = kept 12 (omega arith) i;
        buy = kept 16 (omega arith) i;
        sell = kept 20 (omega arith) i;
        buyer = kept 24 (omega arith) i;
        seller = kept 28 (omega arith) i;
        established = kept 32 (omega arith) i;
        no_bust = kept 36 (omega arith) i;
        mark = number_same rewritten ys (a + 40) 0 (λ m lt. search (rules, arith, places)) i;
        day = number_same rewritten xs (a + 44) (a + 44) (λ m lt. let behind : a + 40 + n ≤ a + 44 + m = omega arith in search (rules, arith, places)) i;
      }
