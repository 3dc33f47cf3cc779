-- The figures of src/limits.rt, for contracts.
use Rattle.std.specs.Prelude.{ℕ, ◌+◌, ◌*◌}

abbrev pub min_parties : ℕ
min_parties = 2

abbrev pub max_parties : ℕ
max_parties = 8

abbrev pub max_legs : ℕ
max_legs = 24

abbrev pub max_holdings : ℕ
max_holdings = 128

abbrev pub max_file : ℕ
max_file = 16384

abbrev pub max_delta : ℕ
max_delta = 200

abbrev pub file_ledgers : ℕ
file_ledgers = 8

abbrev pub coin_ledgers : ℕ
coin_ledgers = 4

abbrev pub book_ledgers : ℕ
book_ledgers = 4

abbrev pub max_coins : ℕ
max_coins = 100000000

abbrev pub titles : ℕ
titles = 64

abbrev pub coin_ceiling : ℕ
coin_ceiling = max_parties * max_coins

abbrev pub outsider_lines : ℕ
outsider_lines = 512

abbrev pub max_lines : ℕ
max_lines = outsider_lines + 2 * max_legs + max_legs * max_parties

abbrev pub set_bits : ℕ
set_bits = 16
