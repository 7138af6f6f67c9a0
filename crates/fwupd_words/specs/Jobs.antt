-- The job that a subcommand requests with its arguments.
use Rattle.std.specs.Prelude.{ℕ, ◌≡◌, true, false, List, None, codes, option_map}
use Rattle.fwupd_words.specs.Clashes.{build_clash, replay_clash, run_clash}
use Rattle.fwupd_words.specs.Processes.{AsksAgentProcess, AsksDeviceProcess, AsksWire, agent_clash, device_clash}
use Rattle.fwupd_words.specs.Words.{AsksAgent, AsksBuild, AsksConfig, AsksDevice, AsksEndpoint, AsksFlag, AsksForm, AsksKept, AsksOrder, AsksPlan, AsksShow, AsksSoak, AsksStatus, AsksUnit, Given, text_under}
use Rattle.fwupd_words.specs.declared.asked.Job.{Job}
use Rattle.fwupd_words.specs.declared.asked.Job.TheVariants as jobs

-- The subcommand `name` with these arguments requests a job.
abbrev pub AsksForJob : (name : List ℕ) → Given → Job → Type 0
AsksForJob name words (jobs.Answer endpoint) = (name ≡ codes "answer") × AsksEndpoint words endpoint × AsksFlag words (codes "serial") false
AsksForJob name words (jobs.AnswerSerial endpoint) = (name ≡ codes "answer") × AsksEndpoint words endpoint × AsksFlag words (codes "serial") true
AsksForJob name words (jobs.Inspect path form digested) =
    (name ≡ codes "inspect") × (path.now ≡ text_under words (codes "FILE")) × AsksForm words form × AsksFlag words (codes "digest") digested
AsksForJob name words (jobs.Replay r) =
    (name ≡ codes "replay") × (replay_clash words ≡ None) × AsksConfig words r.config × (r.schedule.now ≡ text_under words (codes "SCHEDULE")) × (r.show.is_quiet ≡ true) × (r.show.record ≡ None) × (r.show.history ≡ None) × AsksKept words r.show
AsksForJob name words (jobs.Run u) =
    (name ≡ codes "run") × (run_clash words ≡ None) × AsksConfig words u.config × (u.folder.now ≡ text_under words (codes "FOLDER")) × AsksOrder words u.order × AsksShow words u.show
AsksForJob name words (jobs.Sel file form) = (name ≡ codes "sel") × (file.now ≡ text_under words (codes "FILE")) × AsksForm words form
AsksForJob name words (jobs.Build spec output) =
    (name ≡ codes "build") × (build_clash words ≡ None) × (spec.now ≡ text_under words (codes "SPEC")) × AsksBuild words output
AsksForJob name words (jobs.Plan p) = (name ≡ codes "plan") × AsksPlan words p
AsksForJob name words (jobs.Status s) = (name ≡ codes "status") × AsksStatus words s
AsksForJob name words (jobs.Soak s) =
    (name ≡ codes "soak") × AsksConfig words s.config × AsksSoak words s.order
    × (option_map (λ p. p.now) s.record ≡ words.first (codes "record")) × AsksForm words s.form
AsksForJob name words (jobs.Device d) =
    (name ≡ codes "device") × (device_clash words ≡ None) × AsksWire words (codes "listen") None × AsksDevice words d
AsksForJob name words (jobs.Agent a) =
    (name ≡ codes "agent") × (agent_clash words ≡ None) × AsksWire words (codes "connect") None × AsksAgent words a
AsksForJob name words (jobs.DeviceProcess d) = (name ≡ codes "device") × (device_clash words ≡ None) × AsksDeviceProcess words d
AsksForJob name words (jobs.AgentProcess a) = (name ≡ codes "agent") × (agent_clash words ≡ None) × AsksAgentProcess words a
AsksForJob name words (jobs.Decode file unit form) =
    (name ≡ codes "decode") × (option_map (λ p. p.now) file ≡ words.first (codes "FILE")) × AsksUnit words unit × AsksForm words form
