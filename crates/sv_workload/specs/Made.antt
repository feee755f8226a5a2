-- The made workload: steps that a generator draws, on a shop of eight items and three sites.
use Rattle.std.specs.Prelude.{ℕ, zero, suc, pos, codes, ◌+◌, ◌%◌, ◌==◌, nat_lt, if◌then◌else◌, List, [], ◌∷◌, ◌++◌}
use Rattle.rand_core.specs.Pcg32Seed.{pcg32_seed}
use Rattle.rand_pcg.specs.Lcg.{Lcg}
use Rattle.rand_pcg.specs.Pcg.{pcg32, pcg32_of_seed}
use Rattle.sv_value.specs.declared.packets.Packet.TheVariants as packets
use Rattle.sv_app.specs.declared.requests.Arg.TheVariants as args
use Rattle.sv_app.specs.declared.requests.Request.{Request}
use Rattle.sv_workload.specs.declared.parts.Step.{Step}
use Rattle.sv_workload.specs.declared.parts.Step.TheVariants as steps

-- what a generator draws, and the generator behind it
abbrev pub Drawing : Type 0 → Type 0
Drawing A = Lcg → A × Lcg

-- nothing is drawn
abbrev pub drawn : {A : Type 0} → A → Drawing A
drawn a g = (a, g)

-- one drawing after another
infixr 20 ◌>>=◌
abbrev pub ◌>>=◌ : {A B : Type 0} → Drawing A → (A → Drawing B) → Drawing B
◌>>=◌ first next g = next (first g).0 (first g).1

-- the next word of 32 bits, modulo m
abbrev pub pick : ℕ → Drawing ℕ
pick m g = ((pcg32 g).0 % m, (pcg32 g).1)

-- a number from 1 to m
abbrev pub pick_one : ℕ → Drawing ℕ
pick_one m = pick m >>= λ n. drawn (1 + n)

-- the numbers of the shop's transactions, in the order in which they are declared
abbrev pub restock : ℕ
restock = 0

abbrev pub buy : ℕ
buy = 1

abbrev pub reprice : ℕ
reprice = 2

-- a transaction on an item, with an amount
abbrev pub request_on : ℕ → ℕ → ℕ → Request
request_on txn key amount = record { txn = txn; args = args.Int (pos key) ∷ args.Int (pos amount) ∷ [] }

-- one of three sessions asks for a transaction on one of eight items, with an amount of 1 to 5
unfoldable pub asking : ℕ → Drawing Step
asking txn = pick_one 3 >>= λ session. pick_one 8 >>= λ key. pick_one 5 >>= λ amount. drawn (steps.Ask session (request_on txn key amount))

-- the operation of one of three sessions takes its place in the order
unfoldable pub ordering : Drawing Step
ordering = pick_one 3 >>= λ session. drawn (steps.Order session)

-- one of the first 64 blue packets of one of three sites comes to one of three sites
unfoldable pub delivering : Drawing Step
delivering = pick_one 3 >>= λ site. pick_one 3 >>= λ origin. pick 64 >>= λ seq. drawn (steps.Deliver site (packets.Blue origin seq))

-- one of three sites catches up
unfoldable pub catching : Drawing Step
catching = pick_one 3 >>= λ site. drawn (steps.Catch site)

-- the step that a number below 8 stands for
abbrev pub step_for : ℕ → Drawing Step
step_for c =
    if nat_lt c 2 then asking restock
    else if c == 2 then asking buy
    else if c == 3 then asking reprice
    else if c == 4 then ordering
    else if nat_lt c 7 then delivering
    else catching

abbrev pub step_drawn : Drawing Step
step_drawn = pick 8 >>= step_for

-- so many steps, drawn one after another
abbrev pub steps_drawn : ℕ → Lcg → List Step
steps_drawn zero g = []
steps_drawn (suc n) g = (step_drawn g).0 ∷ steps_drawn n (step_drawn g).1

-- the workload of so many steps that a seed makes
abbrev pub made : ℕ → ℕ → List Step
made seed n = steps_drawn n (pcg32_of_seed (pcg32_seed 16 seed))

-- the document on which the workload is made: the shop, its eight items, and three sites
unfoldable pub shop : List ℕ
shop =
    codes "@AUSET create table item (id int, stock int @NUMDELTA, price int @LWW,\n"
    ++ codes "  primary key (id), check (stock >= 0), check (price >= 1));\n"
    ++ codes "txn restock(k: int, n: int) { if n < 0 { abort 1; } update item[k] set stock = old.stock + n; }\n"
    ++ codes "txn buy(k: int, n: int) { if n <= 0 { abort 1; } update item[k] set stock = old.stock - n; }\n"
    ++ codes "txn reprice(k: int, p: int) { update item[k] set price = p; }\n"
    ++ codes "txn add(k: int, n: int, p: int) { insert item (k, n, p); }\n"
    ++ codes "txn look(k: int) { get r = item[k]; reply r.stock; reply r.price; }\n"
    ++ codes "%% init\n"
    ++ codes "item(1, 100, 1); item(2, 100, 1); item(3, 100, 1); item(4, 100, 1);\n"
    ++ codes "item(5, 100, 1); item(6, 100, 1); item(7, 100, 1); item(8, 100, 1);\n"
    ++ codes "%% replay sites=3\n"
