-- Price-time priority, from which price a limit reaches. Assumes nothing.
use Rattle.std.specs.Prelude.{◌≡◌, ℕ, Bool, true, false, not, ◌&&◌, ◌||◌, ◌≢◌, ◌==◌, nat_le, nat_lt}
use Rattle.std.proofs.Common.{arith, rules, tests}
use Rattle.std.proofs.lemmas.Bool.Decides.{nat_tests}
use Rattle.orders.specs.Queue.{higher_first, lower_first}
use Rattle.orders.specs.declared.row.OrderRow.{OrderRow}

pub record ByPrice (first : OrderRow → OrderRow → Bool) (reaches : ℕ → ℕ → Bool) : Type 0 where
  -- a price that the other one, as a limit, does not reach is the better one; at one price the lower place comes first
  pub ranked : (a b : OrderRow) → first a b ≡ (not (reaches a.price b.price) || (a.price == b.price && nat_lt a.place b.place))
  -- of two prices one reaches the other, and both do only where they are one
  pub either : (p q : ℕ) → reaches p q ≡ false → reaches q p ≡ true
  pub level : (p q : ℕ) → reaches p q ≡ true → reaches q p ≡ true → p ≡ q
  pub onward : (p q s : ℕ) → reaches p q ≡ true → reaches q s ≡ true → reaches p s ≡ true

pub higher_by_price : ByPrice higher_first (λ limit price. nat_le limit price)
higher_by_price = search (rules, tests)

pub lower_by_price : ByPrice lower_first (λ limit price. nat_le price limit)
lower_by_price = search (rules, tests)

module _ {first : OrderRow → OrderRow → Bool} {reaches : ℕ → ℕ → Bool} (r : ByPrice first reaches) where
  pub first_oneway : (a b : OrderRow) → first a b ≡ true → first b a ≡ false
  first_oneway a b h = grind (arith, nat_tests, r.ranked a b, r.ranked b a, r.either, r.level)

  pub first_chain : (a b c : OrderRow) → first a b ≡ false → first b c ≡ false → first a c ≡ false
  first_chain a b c h k =
      grind (arith, nat_tests, r.ranked a b, r.ranked b c, r.ranked a c, r.level a.price b.price, r.onward a.price b.price c.price, r.onward b.price c.price a.price)

  pub first_decided : (a b : OrderRow) → (a.place ≢ b.place) → first a b ≡ not (first b a)
  first_decided a b n = grind (arith, nat_tests, r.ranked a b, r.ranked b a, r.either, r.level)

  pub first_nearer : (a b : OrderRow) (limit : ℕ) → first b a ≡ false → reaches limit b.price ≡ true → reaches limit a.price ≡ true
  first_nearer a b limit h t = grind (arith, nat_tests, r.ranked b a, r.onward limit b.price a.price)
