-- The queue behind its first order is the rest of the queue. Assumes the laws of a side.
use Rattle.std.proofs.Common.{◌≡◌, ℕ, suc, ◌<◌, Bool, true, false, cond, not, ◌&&◌, ◌||◌, ltb, List, [], ◌∷◌, length, Some, None, All, filter, Option, sym, refl, ap, ◌∙◌, subst, arith}
use Rattle.std.proofs.lemmas.List.Elements.{All-cons, All-filter, All-head, All-nil, All-tail, All-weaker, filter_passes}
use Rattle.std.proofs.lemmas.Bool.{le-ltb, lt-ltb, ltb-true, ltb-false, true≢false, false≢true, and_parts}
use Rattle.orders.specs.Queue.{Slot, slots, before, insert, sorted, head, past, rests, wanted, behind, counted}
use Rattle.orders.specs.declared.row.OrderRow.{OrderRow}
use Rattle.orders.proofs.Gone.{tail, some_same, none_some, all_head, all_insert, all_sorted, Within, slots_in}

-- a test that orders: strict, and what it leaves open is passed on
pub record Ranks (lt : Slot → Slot → Bool) : Type 0 where
  pub oneway : (x y : Slot) → lt x y ≡ true → lt y x ≡ false
  pub chain : (x y z : Slot) → lt x y ≡ false → lt y z ≡ false → lt x z ≡ false
  pub total : (x y : Slot) → (x.index ≡ y.index → ⊥) → lt x y ≡ false → lt y x ≡ true

open_false : (a b c : Bool) → (a || (not b && c)) ≡ false → (a ≡ false) × (b ≡ false → c ≡ false)
open_false true b c h = absurd (true≢false h)
open_false false true c h = (refl, λ z. absurd (true≢false z))
open_false false false c h = (refl, λ z. h)

open_from : (a b c : Bool) → a ≡ false → (b ≡ false → c ≡ false) → (a || (not b && c)) ≡ false
open_from true b c x y = x
open_from false true c x y = refl
open_from false false c x y = y refl

open_true : (a b c : Bool) → a ≡ false → (b ≡ false → c ≡ true) → (b || (not a && c)) ≡ true
open_true true b c x y = absurd (true≢false x)
open_true false true c x y = refl
open_true false false c x y = y refl

open_oneway : (a b c d : Bool) → (a ≡ true → b ≡ false) → (c ≡ true → d ≡ false) → (a || (not b && c)) ≡ true → (b || (not a && d)) ≡ false
open_oneway true b c d x y h = rw (x refl)
open_oneway false true c d x y h = absurd (false≢true h)
open_oneway false false c d x y h = y h

not_both : (a : Bool) → (a ≡ true → a ≡ false) → a ≡ false
not_both true f = f refl
not_both false f = refl

pub true_unless : (a : Bool) → (a ≡ false → ⊥) → a ≡ true
true_unless true f = refl
true_unless false f = absurd (f refl)

and_in : (a b c : Bool) → (a ≡ true → c ≡ true) → (a && b) ≡ ((c && b) && a)
and_in true true c h = rw (h refl)
and_in true false c h = rw (h refl)
and_in false b true h = no_and b
  where
    no_and : (b : Bool) → false ≡ (b && false)
    no_and true = refl
    no_and false = refl
and_in false b false h = refl

module _ (first : OrderRow → OrderRow → Bool) (oneway : (a b : OrderRow) → first a b ≡ true → first b a ≡ false) (chain : (a b c : OrderRow) → first a b ≡ false → first b c ≡ false → first a c ≡ false) where
  pub ranks : Ranks (before first)
  ranks =
      record {
        oneway = λ x y h. open_oneway (first x.row y.row) (first y.row x.row) (ltb x.index y.index) (ltb y.index x.index) (oneway x.row y.row) (λ l. le-ltb _ _ (omega (arith, ltb-true x.index y.index l))) h;
        chain = λ x y z h k.
            let a : (first x.row y.row ≡ false) × (first y.row x.row ≡ false → ltb x.index y.index ≡ false) = open_false _ _ _ h in
            let b : (first y.row z.row ≡ false) × (first z.row y.row ≡ false → ltb y.index z.index ≡ false) = open_false _ _ _ k in
            open_from (first x.row z.row) (first z.row x.row) (ltb x.index z.index) (chain x.row y.row z.row a.0 b.0)
            (λ o. le-ltb _ _ (omega (
              arith,
              ltb-false x.index y.index (a.1 (chain y.row z.row x.row b.0 o)),
              ltb-false y.index z.index (b.1 (chain z.row x.row y.row o a.0)),
            )));
        total = λ x y n h.
            let a : (first x.row y.row ≡ false) × (first y.row x.row ≡ false → ltb x.index y.index ≡ false) = open_false _ _ _ h in
            open_true (first x.row y.row) (first y.row x.row) (ltb y.index x.index) a.0 (λ o. lt-ltb _ _ (omega (arith, n, ltb-false x.index y.index (a.1 o))));
      }

abbrev pub Rising : List Slot → Type 0
Rising [] = Unit {0}
Rising (x ∷ xs) = All (λ y. x.index < y.index) xs × Rising xs

pub rising_slots : (k : ℕ) (rows : List OrderRow) → Rising (slots k rows)
rising_slots k [] = tt
rising_slots k (r ∷ rows) = (
  All-weaker (Within (suc k) (length rows)) (λ y. k < y.index) (λ y w. omega arith) (slots (suc k) rows) (slots_in (suc k) rows),
  rising_slots (suc k) rows,
)

pub rising_kept : (p : Slot → Bool) (es : List Slot) → Rising es → Rising (filter p es)
rising_kept p [] r = tt
rising_kept p (x ∷ xs) r = go (p x) (rising_kept p xs r.1)
  where
    go : (b : Bool) → Rising (filter p xs) → Rising (cond b (x ∷ filter p xs) (filter p xs))
    go true k = (All-filter p (λ y. x.index < y.index) xs r.0, k)
    go false k = k

-- a filter that all pass
kept_all : (p : Slot → Bool) (xs : List Slot) → All (λ y. p y ≡ true) xs → filter p xs ≡ xs
kept_all p [] a = refl
kept_all p (x ∷ xs) a = rw (All-head (λ y. p y ≡ true) x xs a) (ap (λ l. x ∷ l) (kept_all p xs (All-tail (λ y. p y ≡ true) x xs a)))

-- two filters are one
kept_kept : (p q r : Slot → Bool) → ((x : Slot) → r x ≡ (p x && q x)) → (xs : List Slot) → filter r xs ≡ filter q (filter p xs)
kept_kept p q r h [] = refl
kept_kept p q r h (x ∷ xs) = rw (h x) (go (p x) (q x) refl (kept_kept p q r h xs))
  where
    go : (a b : Bool) → q x ≡ b → filter r xs ≡ filter q (filter p xs) → cond (a && b) (x ∷ filter r xs) (filter r xs) ≡ filter q (cond a (x ∷ filter p xs) (filter p xs))
    go true true e i = rw e (ap (λ l. x ∷ l) i)
    go true false e i = rw e i
    go false b e i = i

module _ (lt : Slot → Slot → Bool) (o : Ranks lt) where
  strict : (x : Slot) → lt x x ≡ false
  strict x = not_both (lt x x) (o.oneway x x)

  -- nothing comes before the head
  low_insert : (x f : Slot) (q : List Slot) → head (insert lt x q) ≡ Some f → ((g : Slot) → head q ≡ Some g → All (λ y. lt y g ≡ false) q) → (lt x f ≡ false) × All (λ y. lt y f ≡ false) q
  low_insert x f [] h i = (subst (λ (z : Slot). lt x z ≡ false) (some_same x f h) (strict x), All-nil (λ y. lt y f ≡ false))
  low_insert x f (g ∷ gs) h i = go (lt x g) refl h
    where
      go : (b : Bool) → lt x g ≡ b → head (cond b (x ∷ g ∷ gs) (g ∷ insert lt x gs)) ≡ Some f → (lt x f ≡ false) × All (λ y. lt y f ≡ false) (g ∷ gs)
      go true e h =
          subst (λ (z : Slot). (lt x z ≡ false) × All (λ y. lt y z ≡ false) (g ∷ gs)) (some_same x f h)
          (strict x, All-weaker (λ y. lt y g ≡ false) (λ y. lt y x ≡ false) (λ y l. o.chain y g x l (o.oneway x g e)) (g ∷ gs) (i g refl))
      go false e h = subst (λ (z : Slot). (lt x z ≡ false) × All (λ y. lt y z ≡ false) (g ∷ gs)) (some_same g f h) (e, i g refl)

  low_sorted : (xs : List Slot) (f : Slot) → head (sorted lt xs) ≡ Some f → All (λ y. lt y f ≡ false) (sorted lt xs)
  low_sorted [] f h = All-nil (λ y. lt y f ≡ false)
  low_sorted (x ∷ xs) f h =
      let l = low_insert x f (sorted lt xs) h (λ g. low_sorted xs g) in
      all_insert lt (λ y. lt y f ≡ false) x (sorted lt xs) l.0 l.1

  all_of_insert : (P : Slot → Type 0) (x : Slot) (q : List Slot) → All P (insert lt x q) → P x × All P q
  all_of_insert P x [] a = (All-head P x [] a, All-nil P)
  all_of_insert P x (f ∷ fs) a = go (lt x f) a (all_of_insert P x fs)
    where
      go : (b : Bool) → All P (cond b (x ∷ f ∷ fs) (f ∷ insert lt x fs)) → (All P (insert lt x fs) → P x × All P fs) → P x × All P (f ∷ fs)
      go true a i = (All-head P x (f ∷ fs) a, All-tail P x (f ∷ fs) a)
      go false a i = let r = i (All-tail P f (insert lt x fs) a) in (r.0, All-cons P f fs (All-head P f (insert lt x fs) a) r.1)

  all_unsorted : (P : Slot → Type 0) (xs : List Slot) → All P (sorted lt xs) → All P xs
  all_unsorted P [] a = All-nil P
  all_unsorted P (x ∷ xs) a = let r = all_of_insert P x (sorted lt xs) a in All-cons P x xs r.0 (all_unsorted P xs r.1)

  mine_first : (x : Slot) (xs : List Slot) → All (λ y. lt x y ≡ true) (sorted lt xs) → sorted lt (filter (lt x) (x ∷ xs)) ≡ sorted lt xs
  mine_first x xs a = rw (strict x) (ap (sorted lt) (kept_all (lt x) xs (all_unsorted (λ y. lt x y ≡ true) xs a)))

  all_past : (x f y : Slot) → lt x f ≡ true → lt y f ≡ false → lt x y ≡ true
  all_past x f y h k = true_unless (lt x y) (λ z. true≢false (sym h ∙ o.chain x y f z k))

  -- what comes after the first is the rest
  pub rest_behind : (xs : List Slot) (e : Slot) → Rising xs → head (sorted lt xs) ≡ Some e → sorted lt (filter (lt e) xs) ≡ tail (sorted lt xs)
  rest_behind [] e r h = absurd (none_some e h)
  rest_behind (x ∷ xs) e r h = go (sorted lt xs) refl h (λ f. rest_behind xs f r.1)
    where
      at_first : (q : List Slot) → sorted lt xs ≡ q → x ≡ e → All (λ y. lt x y ≡ true) q → sorted lt (filter (lt e) (x ∷ xs)) ≡ q
      at_first q s z a =
          ap (λ (y : Slot). sorted lt (filter (lt y) (x ∷ xs))) (sym z)
          ∙ mine_first x xs (subst (λ (l : List Slot). All (λ y. lt x y ≡ true) l) (sym s) a) ∙ s

      at_other : (f : Slot) (fs : List Slot) → sorted lt xs ≡ f ∷ fs → f ≡ e → lt x f ≡ false → sorted lt (filter (lt f) xs) ≡ tail (sorted lt xs) → sorted lt (filter (lt e) (x ∷ xs)) ≡ insert lt x fs
      at_other f fs s z l i =
          ap (λ (y : Slot). sorted lt (filter (lt y) (x ∷ xs))) (sym z)
          ∙ rw (o.total x f (λ m. let k : x.index < f.index = all_head (λ y. x.index < y.index) (sorted lt xs) f (ap head s) (all_sorted lt (λ y. x.index < y.index) xs r.0) in omega arith) l) (ap (insert lt x) (i ∙ ap tail s))

      go : (q : List Slot) → sorted lt xs ≡ q → head (insert lt x q) ≡ Some e → ((f : Slot) → head (sorted lt xs) ≡ Some f → sorted lt (filter (lt f) xs) ≡ tail (sorted lt xs)) → sorted lt (filter (lt e) (x ∷ xs)) ≡ tail (insert lt x q)
      go [] s h i = at_first [] s (some_same x e h) (All-nil (λ y. lt x y ≡ true))
      go (f ∷ fs) s h i = by (lt x f) refl h
        where
          by : (b : Bool) → lt x f ≡ b → head (cond b (x ∷ f ∷ fs) (f ∷ insert lt x fs)) ≡ Some e → sorted lt (filter (lt e) (x ∷ xs)) ≡ tail (cond b (x ∷ f ∷ fs) (f ∷ insert lt x fs))
          by true l h =
              at_first (f ∷ fs) s (some_same x e h)
              (All-weaker (λ y. lt y f ≡ false) (λ y. lt x y ≡ true) (λ y k. all_past x f y l k) (f ∷ fs)
              (subst (λ (q : List Slot). All (λ y. lt y f ≡ false) q) s (low_sorted xs f (ap head s))))
          by false l h = at_other f fs s (some_same f e h) l (i f (ap head s))

module _ (first : OrderRow → OrderRow → Bool) (o : Ranks (before first)) (code product : ℕ) (rows : List OrderRow) where
  past_on : (cur : Option Slot) (e x : Slot) → past first cur e ≡ true → before first e x ≡ true → past first cur x ≡ true
  past_on None e x h k = refl
  past_on (Some c) e x h k = true_unless (before first c x) (λ z. true≢false (sym h ∙ o.chain c x e z (o.oneway e x k)))

  -- the queue behind its first order
  pub next_behind : (cur : Option Slot) (e : Slot) → Some e ≡ head (behind code first product cur rows) → behind code first product (Some e) rows ≡ tail (behind code first product cur rows)
  next_behind cur e h =
      let p = wanted code first product cur in
      let es = slots 0 (counted rows) in
      let w : p e ≡ true = all_head (λ y. p y ≡ true) (sorted (before first) (filter p es)) e (sym h) (all_sorted (before first) (λ y. p y ≡ true) (filter p es) (filter_passes p es)) in
      ap (sorted (before first)) (kept_kept p (before first e) (wanted code first product (Some e)) (λ x. and_in (before first e x) (rests code product x) (past first cur x) (past_on cur e x (and_parts (past first cur e) (rests code product e) w).0)) es)
      ∙ rest_behind (before first) o (filter p es) e (rising_kept p es (rising_slots 0 (counted rows))) (sym h)
