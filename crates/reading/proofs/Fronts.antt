-- How far the front of a text goes whose bytes all pass, walked byte by byte. Assumes nothing.
use Rattle.std.proofs.Common.{◌≡◌, ℕ, ◌+◌, ◌<◌, ◌≤◌, Bool, true, false, List, length, get_or, drop, arith}
use Rattle.std.proofs.lemmas.List.Sums.{prefix_len-drop_yes, prefix_len-drop_no, prefix_len-drop_all}
use Rattle.std.specs.List.{prefix_len}

module _ (p : ℕ → Bool) (xs : List ℕ) (i n : ℕ) (so_far : i + prefix_len p (drop i xs) ≡ n) where
  pub front_goes : i < length xs → p (get_or xs i 0) ≡ true → i + 1 + prefix_len p (drop (i + 1) xs) ≡ n
  front_goes lt passes = let on = prefix_len-drop_yes p xs i 0 lt passes in omega (arith, on, so_far)

  pub front_stops : i < length xs → p (get_or xs i 0) ≡ false → i ≡ n
  front_stops lt fails = let stop = prefix_len-drop_no p xs i 0 lt fails in omega (arith, stop, so_far)

  pub front_ends : length xs ≤ i → i ≡ n
  front_ends le = let end = prefix_len-drop_all p xs i le in omega (arith, end, so_far)
