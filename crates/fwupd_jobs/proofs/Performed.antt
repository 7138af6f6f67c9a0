-- The exit status of the program with arguments that give a job, or none.
use Rattle.std.proofs.Common.{◌≡◌, ◌≢◌, ◌⊎◌, ℕ, List, Result, Ok, Err, inl, inr, subst}
use Rattle.clap.specs.Words.{App, kind_of}
use Rattle.clap.specs.declared.error.Error.{Error}
use Rattle.clap.specs.declared.error.kind.ErrorKind.TheVariants as kinds
use Rattle.fwupd_words.specs.CommandLine.{IsCommandLine}
use Rattle.fwupd_words.specs.Reading.{ReadsWords}
use Rattle.fwupd_words.specs.declared.asked.Job.{Job}
use Rattle.fwupd_watch.specs.Outputs.{OutputOf}
use Rattle.fwupd_jobs.specs.Jobs.{Performs, SystemSays}

pub performs_job : (words : List (List ℕ)) (result : Result Job Error) (job : Job) (status : ℕ) (before now : OutputOf) → (line : App) × IsCommandLine line × ReadsWords line words result → result ≡ Ok job → SystemSays status job before now
    → Performs words status
performs_job words result job status before now (line, is, reads) given says = inl (record {
  line = line;
  is = is;
  job = job;
  reads = subst (ReadsWords line words) given reads;
  before = before;
  now = now;
  says = says;
})

pub lacks_job : (words : List (List ℕ)) (result : Result Job Error) (error : Error) (status : ℕ) → (line : App) × IsCommandLine line × ReadsWords line words result → result ≡ Err error → (kind_of error ≡ kinds.OutOfMemory → status ≡ 1)
    → ((kind_of error ≡ kinds.DisplayHelp) ⊎ (kind_of error ≡ kinds.DisplayVersion) → (status ≡ 0) ⊎ (status ≡ 1))
    → (kind_of error ≢ kinds.OutOfMemory → kind_of error ≢ kinds.DisplayHelp → kind_of error ≢ kinds.DisplayVersion → status ≡ 2) → Performs words status
lacks_job words result error status (line, is, reads) given memory shown mistake = inr (inl (record {
  line = line;
  is = is;
  error = error;
  reads = subst (ReadsWords line words) given reads;
  memory = memory;
  shown = shown;
  mistake = mistake;
}))

pub lacks_output : (words : List (List ℕ)) (result : Result Job Error) (job : Job) (status : ℕ) → (line : App) × IsCommandLine line × ReadsWords line words result → result ≡ Ok job → status ≡ 1 → Performs words status
lacks_output words result job status (line, is, reads) given refused = inr (inr (record {
  line = line;
  is = is;
  job = job;
  reads = subst (ReadsWords line words) given reads;
  refused = refused;
}))
