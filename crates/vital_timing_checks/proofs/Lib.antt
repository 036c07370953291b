mod Times
