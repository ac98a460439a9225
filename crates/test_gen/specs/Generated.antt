-- The generated test: which operation each place of each thread has, by the words of stream 54 of the seed.
use Rattle.std.specs.Prelude.{ℕ, zero, suc, ◌+◌, ◌*◌, ◌%◌, List, map, nat_lt, if◌then◌else◌}
use Rattle.std.specs.List.{range_with_len}
use Rattle.mt_base.specs.Words.{word}
use Rattle.test_lang.specs.declared.op.Op.{Op}
use Rattle.test_lang.specs.declared.op.Op.TheVariants.{Load, Store, Fence}
use Rattle.test_lang.specs.declared.op.Action.{Action}
use Rattle.test_lang.specs.Actions.{action_of}
use Rattle.test_lang.specs.Program.{Program}
use Rattle.test_gen.specs.declared.settings.GenSettings.{GenSettings}

-- The operation of a share, which is a number below 100, and of a word x of the test: fences have the lowest shares, then stores, and loads the others.
abbrev pub op_by : GenSettings → ℕ → ℕ → Op
op_by s share x = if nat_lt share s.fences then Fence else if nat_lt share (s.fences + s.stores) then Store x else Load x

-- The operation that is drawn from word j on. That one says its share, and the next one, where it isn't a fence, which word of the test it is of.
abbrev pub op_from : GenSettings → ℕ → Op
op_from s j = op_by s (word s.seed 54 j % 100) (word s.seed 54 (j + 1) % s.words)

-- how many words an operation takes
abbrev pub words_for : Op → ℕ
words_for (Load x) = 2
words_for (Store x) = 2
words_for Fence = 1

-- how many words the first n operations of the test take
abbrev pub words_before : GenSettings → ℕ → ℕ
words_before s zero = 0
words_before s (suc n) = words_before s n + words_for (op_from s (words_before s n))

-- The operation at a place of a thread, both counted from 0. Its words stand behind those of all operations before it, thread by thread.
abbrev pub op_at : GenSettings → ℕ → ℕ → Op
op_at s thread place = op_from s (words_before s (thread * s.ops + place))

-- the first n operations of a thread
abbrev pub first_ops : GenSettings → ℕ → ℕ → List Action
first_ops s thread n = map (λ place. action_of (op_at s thread place)) (range_with_len 0 n)

-- the first n threads
abbrev pub first_threads : GenSettings → ℕ → List (List Action)
first_threads s n = map (λ thread. first_ops s thread s.ops) (range_with_len 0 n)

-- the test that the settings draw
abbrev pub generated : GenSettings → Program
generated s = record { version = 1; words = s.words; threads = first_threads s s.threads }
