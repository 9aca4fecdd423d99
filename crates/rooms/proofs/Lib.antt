pub mod ClaimingScripts
