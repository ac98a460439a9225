-- Settings that differ from others in one thing.
use Rattle.std.specs.Prelude.{ℕ}
use Rattle.command_line.specs.declared.meaning.Settings.{Settings}

-- the same settings, with so many workers and runners
abbrev pub with_crew : Settings → ℕ → ℕ → Settings
with_crew s workers runners = record {
  command = s.command;
  model = s.model;
  target = s.target;
  fault = s.fault;
  chunk = s.chunk;
  workers = workers;
  runners = runners;
  runs = s.runs;
  gen_settings = s.gen_settings;
}

-- the same settings, with so many signatures in a chunk
abbrev pub with_chunk : Settings → ℕ → Settings
with_chunk s chunk = record {
  command = s.command;
  model = s.model;
  target = s.target;
  fault = s.fault;
  chunk = chunk;
  workers = s.workers;
  runners = s.runners;
  runs = s.runs;
  gen_settings = s.gen_settings;
}
