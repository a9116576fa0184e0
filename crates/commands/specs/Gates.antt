-- What an output means (02, L7): the gate of each port, when an output is blocked, and the command that it makes. Words in quotation marks are
-- document 02's. Rates are values of the logic's own account of IEEE 754; le there is Rust's <=, for which minus zero is 0.
use Rattle.std.specs.Prelude.{ℕ, zero, suc, Bool, cond, not, ◌&&◌, ◌||◌, List, [], ◌∷◌, map, pos, leb, Float}
use Rattle.std.specs.Float.{binary32}
use Rattle.std.specs.Float.Ieee.{le, of_int, of_bits, to_bits, nan_bits}
use Rattle.commands.specs.declared.Command.{Command}
use Rattle.commands.specs.declared.Command.TheVariants.{Bump, Rebound, Preload, Blocked}

-- ---- the gates
-- "Ports 0 to 2": how many have a gate
abbrev pub gates : ℕ
gates = 3

-- a whole number as a float
unfoldable pub float : ℕ → Float
float n = of_int binary32 (pos n)

-- "Each gate has a lowest and highest float: bump and rebound 0 to 8000, preload 0 to 40"; asked only of a port that has one
abbrev pub lowest : Float
lowest = float 0

unfoldable pub highest_of : (port : ℕ) → Float
highest_of zero = float 8000
highest_of (suc zero) = float 8000
highest_of (suc (suc port)) = float 40

-- "Ends are allowed"
unfoldable pub in_gate : (port : ℕ) → Float → Bool
in_gate port rate = le lowest rate && le rate (highest_of port)

-- ---- the command
-- "the port is 3 to 7, the value is not a number, or it lies outside the gate"
unfoldable pub blocked : (port value : ℕ) → Bool
blocked port value = leb gates port || nan_bits binary32 value || not (in_gate port (of_bits binary32 value))

-- "Ports 0 to 2 now mean bump, rebound and preload"; asked only of these
unfoldable pub command_with : (port : ℕ) → Float → Command
command_with zero rate = Bump rate
command_with (suc zero) rate = Rebound rate
command_with (suc (suc port)) rate = Preload rate

-- "a command that carries its rate, or as blocked with the port"; "the value is the bits of a 32-bit float"
unfoldable pub command_of : (port value : ℕ) → Command
command_of port value = cond (blocked port value) (Blocked port) (command_with port (of_bits binary32 value))

-- ---- 02's numbers of each case: its port, and the word of its rate if it carries one
abbrev pub port_of : Command → ℕ
port_of (Bump rate) = 0
port_of (Rebound rate) = 1
port_of (Preload rate) = 2
port_of (Blocked port) = port

abbrev pub rates_of : Command → List Float
rates_of (Bump rate) = rate ∷ []
rates_of (Rebound rate) = rate ∷ []
rates_of (Preload rate) = rate ∷ []
rates_of (Blocked port) = []

abbrev pub words_of : Command → List ℕ
words_of command = port_of command ∷ map (to_bits binary32) (rates_of command)
